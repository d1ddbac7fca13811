mod Bitwise
