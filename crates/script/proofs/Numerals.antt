-- A loop that reads a number digit by digit, and stops counting at 65,536. Assumes nothing.
use Rattle.std.specs.List.{range_with_len}
use Rattle.std.proofs.Common.{map, slice_index, take_all, ◌≡◌, ℕ, ◌+◌, ◌*◌, ◌<◌, ◌≤◌, Bool, true, false, List, [], ◌∷◌, ◌++◌, length, get_or, take, drop, sym, refl, ap, ◌∙◌, subst, le_of_suc-le-suc, not-suc-le-zero, suc-ne-zero, arith, drop_of_length-le, drop-cons}
use Rattle.std.specs.Str.Parse.{AllDigits, digits_value}
use Rattle.std.specs.Char.{digit_value as digitValue}
use Rattle.std.proofs.lemmas.List.FromFn.{fill_by_all, take-map-range_with_len}
use Rattle.std.proofs.lemmas.Int.Digits.{digits_value_more}
use Rattle.std.proofs.lemmas.Str.Parse.{digits_value-take-le}
use Rattle.layout.specs.Labels.{flag}
use Rattle.script.specs.Words.{word, rest, Numbered, Numbers}

-- a word of digits is a number, where it is not empty and the number fits
pub read_all : (w : List ℕ) (n : ℕ) → 0 < length w → AllDigits 10 w → n ≡ digits_value 10 w → n < 65536 → Numbered w n
read_all w n some ds e h = ((some, ds), sym e, h)

-- what some digits of a number write is no more than the number
pub too_large : (w : List ℕ) (i n m : ℕ) → i < length w → n ≡ digits_value 10 (take i w) → Numbered w m → n * 10 + digitValue (get_or w i 0) < 65536
too_large w i n m h e x =
    let step = digits_value_more 10 w i h in
    omega (arith, digits_value-take-le 10 w (i + 1) (omega arith), step, e, x.1, x.2)

-- the words at the front of a text are numerals of these numbers, and left is what stands after them
abbrev pub Front : List ℕ → List ℕ → List ℕ → Type 0
Front text [] left = left ≡ text
Front text (n ∷ ns) left = Numbered (word text) n × Front (rest text) ns left

pub front_more : (text ns left : List ℕ) (n : ℕ) → Front text ns left → Numbered (word left) n → Front text (ns ++ n ∷ []) (rest left)
front_more text [] left n e h = (subst (λ t. Numbered (word t) n) e h, ap rest e)
front_more text (m ∷ ns) left n f h = (f.0, front_more (rest text) ns left n f.1 h)

pub front_all : (text ns left : List ℕ) → Front text ns left → word left ≡ [] → Numbers text ns
front_all text [] left e h = subst (λ t. word t ≡ []) e h
front_all text (n ∷ ns) left f h = (f.0, front_all (rest text) ns left f.1 h)

-- numbers that the whole text writes go on after the front
pub front_rest : (text ns left ms : List ℕ) → Front text ns left → length ns ≤ length ms → Numbers text ms → Numbers left (drop (length ns) ms)
front_rest text [] left ms e l h = subst (λ t. Numbers t ms) (sym e) h
front_rest text (n ∷ ns) left [] f l h = absurd (not-suc-le-zero l)
front_rest text (n ∷ ns) left (m ∷ ms) f l h = front_rest (rest text) ns left ms f.1 (le_of_suc-le-suc l) h.1

-- the word after the front is no numeral
pub front_stuck : (text ns left ms : List ℕ) → Front text ns left → length ns < length ms → ((n : ℕ) → Numbered (word left) n → ⊥) → Numbers text ms → ⊥
front_stuck text ns left ms f l not h =
    let more = front_rest text ns left ms f (omega arith) h in
    let cons = drop-cons ms (length ns) 0 l in
    not (get_or ms (length ns) 0) (subst (Numbers left) cons more).0

-- more words follow
pub front_long : (text ns left ms : List ℕ) → Front text ns left → length ns ≡ length ms → (word left ≡ [] → ⊥) → Numbers text ms → ⊥
front_long text ns left ms f l not h =
    let more = front_rest text ns left ms f (omega arith) h in
    not (subst (Numbers left) (drop_of_length-le ms (omega arith)) more)

pub empty_list : (ns : List ℕ) → length ns ≡ 0 → ns ≡ []
empty_list [] e = refl
empty_list (n ∷ ns) e = absurd (suc-ne-zero _ e)

-- the first n numbers of a list, one by one
abbrev pub firsts : ℕ → List ℕ → List ℕ
firsts n ns = map (λ i. slice_index ns i) (range_with_len 0 n)

pub firsts_are : (n : ℕ) (ns : List ℕ) → n ≤ length ns → take n ns ≡ firsts n ns
firsts_are n ns h =
    ap (take n) (fill_by_all (λ i. get_or ns i 0) ns (length ns) 0 refl (λ k l. refl)) ∙ take-map-range_with_len (λ i. get_or ns i 0) 0 (length ns) n h

pub numbers_are : (n : ℕ) (text ns : List ℕ) → length ns ≡ n → Numbers text ns → Numbers text (firsts n ns)
numbers_are n text ns e h = subst (Numbers text) (sym (take_all n ns (omega (arith, e))) ∙ firsts_are n ns (omega (arith, e))) h

-- the flag of a label
pub flag_small : (after : Bool) → flag after ≤ 1
flag_small true = omega arith
flag_small false = omega arith
