-- A block in hexadecimal: pairs of lower-case digits.
use Rattle.std.specs.Prelude.{ℕ, ◌+◌, ◌-◌, ◌*◌, ◌/◌, ◌%◌, ◌&&◌, nat_le, nat_lt, List, [], ◌∷◌, length, if◌then◌else◌, Option, Some, None}
use Rattle.am_lexer.specs.Text.{is_digit, has_bytes}

-- the value of a digit: 0 to 9, a to f
abbrev pub digit_value : ℕ → Option ℕ
digit_value byte = if is_digit byte then Some (byte - 48) else (if nat_le 97 byte && nat_le byte 102 then Some (byte - 87) else None)

abbrev pub joined : Option ℕ → Option ℕ → Option ℕ
joined (Some high) (Some low) = Some (16 * high + low)
joined high low = None

abbrev pub pair_value : ℕ → ℕ → Option ℕ
pair_value high low = joined (digit_value high) (digit_value low)

abbrev pub in_front : Option ℕ → Option (List ℕ) → Option (List ℕ)
in_front (Some byte) (Some bytes) = Some (byte ∷ bytes)
in_front byte bytes = None

-- the bytes that pairs of digits spell
unfoldable pub bytes_of : List ℕ → Option (List ℕ)
bytes_of [] = Some []
bytes_of (high ∷ []) = None
bytes_of (high ∷ low ∷ digits) = in_front (pair_value high low) (bytes_of digits)

-- A block is 1 to 512 bytes.
unfoldable pub block_of : List ℕ → Option (List ℕ)
block_of word = if has_bytes word && nat_le (length word) 1024 then bytes_of word else None

-- the digit of a value below 16
abbrev pub digit_of : ℕ → ℕ
digit_of value = if nat_lt value 10 then value + 48 else value + 87

-- a byte as two digits
abbrev pub digits_of : ℕ → List ℕ
digits_of byte = digit_of (byte / 16) ∷ digit_of (byte % 16) ∷ []
