-- The words of a line, and the numbers that they write. Assumes nothing.
use Rattle.std.specs.Prelude.{◌≡◌, ℕ, ◌+◌, ◌*◌, ◌%◌, ◌^◌, ◌<◌, cond, List, [], ◌∷◌, length, Some, None, Option, ◌==◌, ◌≢◌}
use Rattle.std.specs.Str.Parse.{AllDigits, IsNumeral, digits_value}
use Rattle.std.specs.Char.{digit_value}

-- a text from its first byte that is no space on
abbrev pub trimmed : List ℕ → List ℕ
trimmed [] = []
trimmed (c ∷ cs) = cond (c == 32) (trimmed cs) (c ∷ cs)

-- a text up to its first space, and from there on
abbrev pub front : List ℕ → List ℕ
front [] = []
front (c ∷ cs) = cond (c == 32) [] (c ∷ front cs)

abbrev pub behind : List ℕ → List ℕ
behind [] = []
behind (c ∷ cs) = cond (c == 32) (c ∷ cs) (behind cs)

-- the first word of a text, which is empty where there is none, and what stands after it
abbrev pub word : List ℕ → List ℕ
word text = front (trimmed text)

abbrev pub rest : List ℕ → List ℕ
rest text = behind (trimmed text)

-- a word of decimal digits that writes n, which fits 16 bits
abbrev pub Numbered : List ℕ → ℕ → Type 0
Numbered w n = IsNumeral 10 w × (digits_value 10 w ≡ n) × (n < 2 ^ 16)

-- the words of a text are numerals of just these numbers
abbrev pub Numbers : List ℕ → List ℕ → Type 0
Numbers text [] = word text ≡ []
Numbers text (n ∷ ns) = Numbered (word text) n × Numbers (rest text) ns

-- the bytes that hexadecimal digits write, two for each, the high one first
abbrev pub hex_bytes : List ℕ → List ℕ
hex_bytes [] = []
hex_bytes (h ∷ []) = []
hex_bytes (h ∷ l ∷ w) = (digit_value h * 16 + digit_value l) ∷ hex_bytes w

-- a word of hexadecimal digits, an even number of them: the 16 bytes that it writes, or that it writes another number of bytes
abbrev pub HexWord : List ℕ → Option (List ℕ) → Type 0
HexWord w (Some bytes) = AllDigits 16 w × (length w ≡ 32) × (bytes ≡ hex_bytes w)
HexWord w None = AllDigits 16 w × (0 < length w) × (length w % 2 ≡ 0) × (length w ≢ 32)
