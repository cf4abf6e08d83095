-- Where the lines of a text begin: past one line after another, by the scanner's lexemes. Assumes nothing.
use mathlib.Core.Path.{◌≡◌, refl, sym, ap, ◌∙◌}
use mathlib.Core.Bool.{Bool, true, false}
use mathlib.Core.List.{List, [], ◌∷◌}
use Prim.Native.Nat.{ℕ, suc, ◌<◌, ◌≤◌}
use native.Mathlib.Omega.{arith}
use lib.ListN.{length, get_or}
use Rattle.syntax.specs.Tokens.{Lexeme, ends_line, lexemes}
use Rattle.syntax.specs.RuleLines.{line_offsets}
use Rattle.syntax.specs.declared.Token as Code
use Rattle.syntax.specs.declared.Token.TheVariants.{Name, Sign, Range, Unknown}
use Rattle.scanner.specs.declared.Lexeme as Scanner
use Rattle.scanner.specs.Code.Scanning.{lexemes_at, token_of, ends, ScansTo}
use Rattle.scanner.proofs.Lexing.{lexemes_end}

-- THE LINES THAT BEGIN FROM A PLACE ON, inside a line or not
abbrev offsets_at : (text : List ℕ) → (begins : Bool) → (at : ℕ) → List ℕ
offsets_at text b i = line_offsets b (lexemes_at text i)

ends_right : (text : List ℕ) (o : ℕ) (t : Code.Token) → ends_line (token_of text o t) ≡ ends t
unfolding ends_line token_of
ends_right text o (Name k) = refl
ends_right text o (Sign s) = refl
ends_right text o (Range r) = refl
ends_right text o Unknown = refl

module _ (text : List ℕ) (i : ℕ) where
  no_offsets : (b : Bool) → lexemes_at text i ≡ [] → offsets_at text b i ≡ []
  unfolding line_offsets
  no_offsets b e = rw e

  module _ (l : Scanner.Lexeme) (s : ScansTo text i l) where
    offsets_inside : offsets_at text false i ≡ offsets_at text (ends l.token) l.next
    unfolding line_offsets
    offsets_inside = rw s.first (ap (λ (b : Bool). offsets_at text b l.next) (ends_right text l.offset l.token))

    -- a line that begins here has one offset more
    offsets_first : offsets_at text true i ≡ l.offset ∷ offsets_at text false i
    unfolding line_offsets
    offsets_first = rw s.first

-- TO THE NEXT LINE, as far as a place
abbrev pub InsideLine : (text : List ℕ) → (at i : ℕ) → Type 0
InsideLine text at i = (offsets_at text false at ≡ offsets_at text false i) × (at ≤ i)

abbrev NextLine : (text : List ℕ) → (at to : ℕ) → Type 0
NextLine text at to = (offsets_at text false at ≡ offsets_at text true to) × (at < length text → at < to)

module _ (text : List ℕ) (at i : ℕ) (come : InsideLine text at i) where
  pub line_ended : lexemes_at text i ≡ [] → NextLine text at (length text)
  line_ended e = (come.0 ∙ no_offsets text i false e ∙ sym (no_offsets text _ true (lexemes_end text _ (omega arith))), λ more. more)

  module _ (l : Scanner.Lexeme) (s : ScansTo text i l) where
    pub line_passed : ends l.token ≡ true → NextLine text at l.next
    line_passed e =
        (come.0 ∙ offsets_inside text i l s ∙ ap (λ (b : Bool). offsets_at text b l.next) e, λ more. omega (arith, s.from, s.some))

    pub line_goes_on : ends l.token ≡ false → InsideLine text at l.next
    line_goes_on e =
        (come.0 ∙ offsets_inside text i l s ∙ ap (λ (b : Bool). offsets_at text b l.next) e, omega (arith, s.from, s.some))

-- past the first line from a place on
second : (ls : List Lexeme) (n : ℕ) → get_or (line_offsets true ls) (suc n) 0 ≡ get_or (line_offsets false ls) n 0
unfolding line_offsets
second [] n = refl
second (l ∷ ls) n = refl

-- LINE AFTER LINE: the offset sought is that of a line from a place on, past so many other lines
abbrev pub OffsetLeft : (text : List ℕ) → (line at left : ℕ) → Type 0
OffsetLeft text line at n = get_or (line_offsets true (lexemes text)) line 0 ≡ get_or (offsets_at text true at) n 0

pub offset_start : (text : List ℕ) (line : ℕ) → OffsetLeft text line 0 line
unfolding lexemes lexemes_at
offset_start text line = refl

module _ (text : List ℕ) (line at left : ℕ) (come : OffsetLeft text line at left) where
  pub offset_none : lexemes_at text at ≡ [] → 0 ≡ get_or (line_offsets true (lexemes text)) line 0
  offset_none e = sym (come ∙ ap (λ (os : List ℕ). get_or os left 0) (no_offsets text at true e))

  pub offset_found : (l : Scanner.Lexeme) → ScansTo text at l → left ≡ 0 → l.offset ≡ get_or (line_offsets true (lexemes text)) line 0
  offset_found l s z =
      sym (come ∙ ap (λ (os : List ℕ). get_or os left 0) (offsets_first text at l s) ∙ ap (λ (n : ℕ). get_or (l.offset ∷ offsets_at text false at) n 0) z)

  pub offset_next : (n : ℕ) → left ≡ suc n → (to : ℕ) → NextLine text at to → OffsetLeft text line to n
  offset_next n q to e =
      come ∙ ap (λ (k : ℕ). get_or (offsets_at text true at) k 0) q ∙ second (lexemes_at text at) n ∙ ap (λ (os : List ℕ). get_or os n 0) e.0
