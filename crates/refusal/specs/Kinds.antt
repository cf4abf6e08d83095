-- The number that the table of refusals gives each kind. Assumes nothing: these are definitions.
use Rattle.std.specs.Prelude.{cond, ℕ, eqb}
use Rattle.refusal.specs.declared.Kind.{Kind}
use Rattle.refusal.specs.declared.Kind.TheVariants.{ImageShort, Directory, Counts, RulesLength, ClassMap, Rule, CaptureLong, NotesShort, WorkShort, NoStack, GrammarLength, GrammarRule, ImageBufferShort, Input, Ungrammatical, TooManyRules, TooDeep, Bundle, LeftRecursion}

-- a refusal as clauses see it; number 0 is none
pub record Numbered : Type 0 where
  pub number : ℕ
  pub place : ℕ

abbrev pub number_of : Kind → ℕ
number_of ImageShort = 1
number_of Directory = 2
number_of Counts = 3
number_of RulesLength = 4
number_of ClassMap = 5
number_of Rule = 6
number_of CaptureLong = 7
number_of NotesShort = 8
number_of WorkShort = 9
number_of NoStack = 10
number_of GrammarLength = 11
number_of GrammarRule = 12
number_of ImageBufferShort = 13
number_of Input = 14
number_of Ungrammatical = 15
number_of TooManyRules = 16
number_of TooDeep = 17
number_of Bundle = 18
number_of LeftRecursion = 19

-- the kind of a number
abbrev pub kind_numbered : ℕ → Kind
kind_numbered n =
    (cond (eqb n 1) ImageShort
    (cond (eqb n 2) Directory
    (cond (eqb n 3) Counts
    (cond (eqb n 4) RulesLength
    (cond (eqb n 5) ClassMap
    (cond (eqb n 6) Rule
    (cond (eqb n 7) CaptureLong
    (cond (eqb n 8) NotesShort
    (cond (eqb n 9) WorkShort
    (cond (eqb n 10) NoStack
    (cond (eqb n 11) GrammarLength
    (cond (eqb n 12) GrammarRule
    (cond (eqb n 13) ImageBufferShort
    (cond (eqb n 14) Input
    (cond (eqb n 15) Ungrammatical
    (cond (eqb n 16) TooManyRules
    (cond (eqb n 17) TooDeep
    (cond (eqb n 18) Bundle
    LeftRecursion))))))))))))))))))
