mod Among
