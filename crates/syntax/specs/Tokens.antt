-- The tokens of a text, with their offsets: names, signs and ranges; spaces and line feeds are skipped. Assumes nothing: these are definitions.
use Rattle.std.specs.Prelude.{Bool, true, false, ◌&&◌, ◌||◌, cond, List, [], ◌∷◌, map, ℕ, zero, suc, ◌-◌, eqb, leb, length}
use Rattle.codec.specs.Bytes.{byte}
use Rattle.syntax.specs.declared.Leaf.TheVariants.{AnyByte, EmptyString, Failure}
use Rattle.syntax.specs.declared.Prefix.TheVariants.{NotPredicate, AndPredicate}
use Rattle.syntax.specs.declared.Suffix.TheVariants.{ZeroOrMore, OneOrMore, Optional}
use Rattle.syntax.specs.declared.Sign.{Sign}
use Rattle.syntax.specs.declared.Sign.TheVariants.{Operand, Before, After, Slash, Opening, Closing, Equals, Semicolon}

pub data Token : Type 0 where
  name : (letters : List ℕ) → Token
  sign : Sign → Token
  range : (low high : ℕ) → Token
  unknown : Token

abbrev pub is_semicolon : Sign → Bool
is_semicolon (Operand a) = false
is_semicolon (Before p) = false
is_semicolon (After x) = false
is_semicolon Slash = false
is_semicolon Opening = false
is_semicolon Closing = false
is_semicolon Equals = false
is_semicolon Semicolon = true

-- whether a line begins after a token
unfoldable pub ends_line : Token → Bool
ends_line (name n) = false
ends_line (sign s) = is_semicolon s
ends_line (range l h) = false
ends_line unknown = false

pub record Lexeme : Type 0 where
  pub offset : ℕ
  pub token : Token

-- a to z
unfoldable pub letter : ℕ → Bool
letter b = leb 97 b && leb b 122

-- the longest run of letters at the front
unfoldable pub letters : List ℕ → List ℕ
letters [] = []
letters (b ∷ bs) = cond (letter b) (b ∷ letters bs) []

unfoldable pub same : (xs ys : List ℕ) → Bool
same [] [] = true
same [] (y ∷ ys) = false
same (x ∷ xs) [] = false
same (x ∷ xs) (y ∷ ys) = eqb x y && same xs ys

-- the reserved words: e m p t y, f a i l
abbrev pub empty_word : List ℕ
empty_word = 101 ∷ 109 ∷ 112 ∷ 116 ∷ 121 ∷ []

abbrev pub fail_word : List ℕ
fail_word = 102 ∷ 97 ∷ 105 ∷ 108 ∷ []

-- the token of a run of letters
unfoldable pub word : List ℕ → Token
word ls = cond (same ls empty_word) (sign (Operand EmptyString)) (cond (same ls fail_word) (sign (Operand Failure)) (name ls))

-- the sign of a byte: = ; / ( ) . ! & * + ?
unfoldable pub sign_of : (value : ℕ) → Token
sign_of b =
    cond (eqb b 61) (sign Equals)
    (cond (eqb b 59) (sign Semicolon)
    (cond (eqb b 47) (sign Slash)
    (cond (eqb b 40) (sign Opening)
    (cond (eqb b 41) (sign Closing)
    (cond (eqb b 46) (sign (Operand AnyByte))
    (cond (eqb b 33) (sign (Before NotPredicate))
    (cond (eqb b 38) (sign (Before AndPredicate))
    (cond (eqb b 42) (sign (After ZeroOrMore))
    (cond (eqb b 43) (sign (After OneOrMore))
    (cond (eqb b 63) (sign (After Optional)) unknown))))))))))

-- quote, any byte, minus, any byte, quote; bytes past the end read as 0
unfoldable pub range_there : List ℕ → Bool
range_there bs = eqb (byte bs 0) 39 && (eqb (byte bs 2) 45 && eqb (byte bs 4) 39)

-- the token at the front, and how many bytes it is
unfoldable pub token_at : List ℕ → Token
token_at bs = cond (letter (byte bs 0)) (word (letters bs)) (cond (range_there bs) (range (byte bs 1) (byte bs 3)) (sign_of (byte bs 0)))

unfoldable pub width_at : List ℕ → ℕ
width_at bs = cond (letter (byte bs 0)) (length (letters bs)) (cond (range_there bs) 5 1)

-- space and line feed
unfoldable pub skipped : ℕ → Bool
skipped b = eqb b 32 || eqb b 10

-- the lexemes from an offset on, after so many bytes that belong to the token before
unfoldable pub lexemes_from : (skip offset : ℕ) → List ℕ → List Lexeme
lexemes_from k o [] = []
lexemes_from (suc k) o (b ∷ bs) = lexemes_from k (suc o) bs
lexemes_from zero o (b ∷ bs) =
    cond (skipped b) (lexemes_from zero (suc o) bs)
    (record { offset = o; token = token_at (b ∷ bs) } ∷ lexemes_from (width_at (b ∷ bs) - 1) (suc o) bs)

-- THE LEXEMES OF A TEXT
unfoldable pub lexemes : (text : List ℕ) → List Lexeme
lexemes text = lexemes_from 0 0 text

unfoldable pub tokens : List Lexeme → List Token
tokens ls = map (λ l. l.token) ls
