-- Sequences and choices: what the function of the descent that joins parts answers, way by way through its code. Assumes nothing.
use mathlib.Core.Path.{◌≡◌, refl, sym, ap, subst, ◌∙◌}
use mathlib.Core.Bool.{true, false}
use mathlib.Core.List.{List, [], ◌∷◌}
use Prim.Native.Nat.{ℕ, ◌+◌, ◌<◌, ◌≤◌}
use native.Mathlib.Omega.{arith}
use Rattle.grammar.specs.Grammar.{max_rules}
use Rattle.grammar.specs.declared.Expression.{Expression}
use Rattle.syntax.specs.declared.Node.TheVariants.{Operator}
use Rattle.syntax.specs.Tokens.{Token}
use Rattle.syntax.specs.Trees.{Tree, sequence, choice, Derives}
use Rattle.syntax.specs.Compile.{own_rules, own_number, owed}
use Rattle.syntax.specs.Code.Heads.{heads}
use Rattle.scanner.specs.Code.Scanning.{Peeks, tokens_at}
use Rattle.expressions.specs.declared.Rules.{Rules}
use Rattle.expressions.specs.declared.Level as Code
use Rattle.expressions.specs.declared.Level.TheVariants.{Sequences, Choices}
use Rattle.expressions.specs.declared.lookahead.Role.{Role}
use Rattle.expressions.specs.declared.lookahead.Role.TheVariants as Roles
use Rattle.scanner.specs.declared.Lexeme.{Lexeme}
use Rattle.expressions.specs.Code.Lookahead.{role, starts, parts_choice}
use Rattle.expressions.specs.Code.Building.{advanced}
use Rattle.expressions.specs.Code.Operators.{Begun, Part, part, placed_rules, placed_number, begun_of}
use Rattle.expressions.specs.Code.Levels.{level_of, inner_of, follows, rest_from, pair, by_sign, slash_sign, Room, Stops, LevelRead}
use Rattle.expressions.proofs.Lookings.{clash, role_there, role_tells, none_there}
use Rattle.expressions.proofs.Placing.{Joins, sequence_joins, choice_joins}
use Rattle.expressions.proofs.Deriving.{Begins, AfterSlash, AfterPart, Parted, choices_parted, parts_parted}
use Rattle.expressions.proofs.Descending.{begun_false, begun_true, begun_spent, pair_spent, last_room, first_over, first_alone, none_left, rest_over, both_fit}
use Rattle.expressions.proofs.Leaves.{nothing_spent}

-- how high a level is: a choice begins with a sequence
abbrev pub rank : Code.Level → ℕ
rank Sequences = 1
rank Choices = 2

-- WHAT A JOINING LEVEL IS: its trees, how tokens go on from one part to the next, and that the code's tests tell it
pub record Joining (text : List ℕ) (n : Code.Level) : Type 1 where
  pub join : Tree → Tree → Tree
  pub joins : Joins (heads text) join (pair n)
  pub between : List Token → List Token → Type 0
  pub parted :
      (d : ℕ) (ts : List Token) (e : Tree) (us : List Token) → Derives (level_of n) d ts e us → Stops (level_of n) us →
      Parted (inner_of n) (level_of n) between join d ts e us
  pub one_rest : (m a b : List Token) → between m a → between m b → a ≡ b
  pub more :
      (x : Part) (a : Lexeme) → Peeks text x.at a → follows n (role a.token) ≡ true → between (tokens_at text x.at) (tokens_at text (rest_from n x.at a.next))
  pub no_more : (x : Part) (a : Lexeme) → Peeks text x.at a → follows n (role a.token) ≡ false → (rest : List Token) → between (tokens_at text x.at) rest → ⊥

same_slash : (m a b : List Token) → AfterSlash m a → AfterSlash m b → a ≡ b
same_slash m a b p q = cc

same_part : (m a b : List Token) → AfterPart m a → AfterPart m b → a ≡ b
same_part m a b p q = sym p.0 ∙ q.0

module _ (text : List ℕ) (x : Part) (a : Lexeme) (l : Peeks text x.at a) where
  slash_follows : parts_choice (role a.token) ≡ true → AfterSlash (tokens_at text x.at) (tokens_at text a.next)
  slash_follows f = go (role a.token) refl f
    where
      go : (r : Role) → role a.token ≡ r → parts_choice r ≡ true → AfterSlash (tokens_at text x.at) (tokens_at text a.next)
      go (Roles.Name k) e g = clash (cc)
      go (Roles.Range b) e g = clash (cc)
      go (Roles.Leaf z) e g = clash (cc)
      go Roles.Opening e g = clash (cc)
      go (Roles.Prefix p) e g = clash (cc)
      go (Roles.Suffix s) e g = clash (cc)
      go Roles.Slash e g = role_there text x.at a l Roles.Slash e (λ o. clash (cc))
      go Roles.Other e g = clash (cc)

  no_slash_follows : parts_choice (role a.token) ≡ false → (rest : List Token) → AfterSlash (tokens_at text x.at) rest → ⊥
  unfolding by_sign slash_sign
  no_slash_follows f rest g = clash (cc (role_tells text x.at a l _ _ g).slash)

  part_follows : starts (role a.token) ≡ true → AfterPart (tokens_at text x.at) (tokens_at text x.at)
  part_follows f = (refl, go (tokens_at text x.at) refl)
    where
      go : (ts : List Token) → tokens_at text x.at ≡ ts → Begins (tokens_at text x.at)
      go [] g = clash (cc (ap starts (none_there text x.at a l g)))
      go (t ∷ ts) g = record { token = t; later = ts; is = g; starts = (role_tells text x.at a l t ts g).start ∙ f }

  no_part_follows : starts (role a.token) ≡ false → (rest : List Token) → AfterPart (tokens_at text x.at) rest → ⊥
  no_part_follows f rest g =
      let b = g.1 in
      clash (cc ((role_tells text x.at a l b.token b.later b.is).start, b.starts))

sequencing : (text : List ℕ) → Joining text Sequences
sequencing text =
    record {
      join = sequence;
      joins = sequence_joins (heads text);
      between = AfterPart;
      parted = λ d ts e us x s. parts_parted x s;
      one_rest = same_part;
      more = λ x a l e. part_follows text x a l e;
      no_more = λ x a l e rest f. no_part_follows text x a l e rest f;
    }

choosing : (text : List ℕ) → Joining text Choices
choosing text =
    record {
      join = choice;
      joins = choice_joins (heads text);
      between = AfterSlash;
      parted = λ d ts e us x s. choices_parted x s;
      one_rest = same_slash;
      more = λ x a l e. slash_follows text x a l e;
      no_more = λ x a l e rest f. no_slash_follows text x a l e rest f;
    }

pub joining : (text : List ℕ) (n : Code.Level) → Joining text n
joining text Sequences = sequencing text
joining text Choices = choosing text

-- WAY BY WAY
module _ (text : List ℕ) (n : Code.Level) (J : Joining text n) (at d : ℕ) (before : Rules) (first : Part) (read : LevelRead (inner_of n) text at d before first) where
  pub joined_over : first.fits ≡ false → LevelRead (level_of n) text at d before first
  joined_over f =
      record {
        right = first_over text (inner_of n) (level_of n) J.between J.join (pair n) J.joins d (tokens_at text at) (J.parted d (tokens_at text at)) before first read.right f;
        spent = nothing_spent before 0 first f;
      }

  module _ (fits : first.fits ≡ true) (a : Lexeme) (p : Peeks text first.at a) where
    pub joined_alone : follows n (role a.token) ≡ false → LevelRead (level_of n) text at d before first
    joined_alone e =
        record {
          right = first_alone text (inner_of n) (level_of n) J.between J.join (pair n) J.joins d (tokens_at text at) (J.parted d (tokens_at text at))
              before first read.right fits (J.no_more first a p e);
          spent = read.spent;
        }

    module _ (e : follows n (role a.token) ≡ true) (h : Begun) (begins : h ≡ begun_of first) where
      pub joined_none : h.fits ≡ false → (r : Part) → r.fits ≡ false → LevelRead (level_of n) text at d before r
      joined_none f r gone =
          record {
            right =
                none_left text (inner_of n) (level_of n) J.between J.join (pair n) J.joins d (tokens_at text at) (J.parted d (tokens_at text at)) before first read.right fits
                (tokens_at text (rest_from n first.at a.next)) (J.more first a p e) J.one_rest r (begun_false first h begins f) gone;
            spent = nothing_spent before 0 r gone;
          }

-- THE REST IS DUE: the first part fits, another one follows, and there is a rule for the two
pub record Due (text : List ℕ) (n : Code.Level) (at d : ℕ) (before : Rules) : Type 1 where
  pub joining : Joining text n
  pub first : Part
  pub read : LevelRead (inner_of n) text at d before first
  pub fits : first.fits ≡ true
  pub ahead : Lexeme
  pub looks : Peeks text first.at ahead
  pub goes_on : follows n (role ahead.token) ≡ true
  pub begun : Begun
  pub begins : begun ≡ begun_of first
  pub room : Room text before
  pub some : begun.fits ≡ true

module _ (text : List ℕ) (n : Code.Level) (at d : ℕ) (before : Rules) (due : Due text n at d before) where
  abbrev J : Joining text n
  J = due.joining

  abbrev x : Part
  x = due.first

  abbrev h : Begun
  h = due.begun

  abbrev rest_at : ℕ
  rest_at = rest_from n x.at due.ahead.next

  -- the room for the rest, which is read with fewer rules
  pub rest_room : Room text h.rules × (h.rules.left < before.left)
  rest_room =
      let (fit, less) = begun_spent before x h (due.read.spent due.fits) (begun_true x h due.begins due.some) in
      (record { few = due.room.few; fit = omega (arith, due.room.fit) }, less)

  module _ (from : ℕ) (is_from : from ≡ rest_at) (rest : Part) (later_from : LevelRead (level_of n) text from d h.rules rest) where
    later : LevelRead (level_of n) text rest_at d h.rules rest
    later = subst (λ (i : ℕ). LevelRead (level_of n) text i d h.rules rest) is_from later_from

    pub joined_rest_over : rest.fits ≡ false → LevelRead (level_of n) text at d before rest
    joined_rest_over f =
        record {
          right =
              rest_over text (inner_of n) (level_of n) J.between J.join (pair n) J.joins d (tokens_at text at) (J.parted d (tokens_at text at)) before x due.read.right due.fits
              (tokens_at text rest_at) (J.more x due.ahead due.looks due.goes_on) J.one_rest due.room h (begun_true x h due.begins due.some) rest later.right f;
          spent = nothing_spent before 0 rest f;
        }

    module _ (both : rest.fits ≡ true) where
      pub last_fits : rest.rules.next + owed rest.node ≤ max_rules
      last_fits = last_room before x rest h (due.read.spent due.fits) (begun_true x h due.begins due.some) (later.spent both) due.room.fit

      pub joined_both :
          (k : ℕ) (made : Rules) (own : Expression) → k ≡ own_number rest.node rest.rules.next →
          made ≡ advanced rest.rules (own_rules rest.node rest.rules.next) 0 → own ≡ pair n h.number k →
          LevelRead (level_of n) text at d before (part rest.at (Operator own) made)
      joined_both k made own is_number is_made is_own =
          let is : own ≡ pair n h.number (placed_number rest.node rest.rules) = is_own ∙ ap (λ (m : ℕ). pair n h.number m) is_number in
          subst (λ (r : Rules). LevelRead (level_of n) text at d before (part rest.at (Operator own) r)) (sym is_made)
          (subst (λ (y : Expression). LevelRead (level_of n) text at d before (part rest.at (Operator y) (placed_rules rest.node rest.rules))) (sym is)
          (record {
            right =
                both_fit text (inner_of n) (level_of n) J.between J.join (pair n) J.joins d (tokens_at text at) (J.parted d (tokens_at text at))
                before x due.read.right due.fits (tokens_at text rest_at) (J.more x due.ahead due.looks due.goes_on) J.one_rest due.room h
                (begun_true x h due.begins due.some) rest later.right both;
            spent = λ f. pair_spent before x rest h rest.at (pair n h.number (placed_number rest.node rest.rules)) (due.read.spent due.fits)
                (begun_true x h due.begins due.some) (later.spent both);
          }))
