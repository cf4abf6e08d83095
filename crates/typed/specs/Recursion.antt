-- What the check of a typed grammar for left recursion answers, by cases: the text's own refusal, none, or the lowest rule that leads back to itself with the offset of the name of its line. Assumes nothing: these are definitions.
use Rattle.std.specs.Prelude.{◌≡◌, List, ℕ, Result, Ok, Err}
use Rattle.refusal.specs.declared.Refusal.{Refusal}
use Rattle.refusal.specs.First.{refusal, no_refusal}
use Rattle.recursion.specs.Computed.{recursion_refusal}
use Rattle.syntax.specs.Trees.{Definition, LegalText}
use Rattle.syntax.specs.RuleLines.{LineOfRule, NameAt}
use Rattle.syntax.specs.Reading.{Refused as Unread, Grammar, ReadSays}
use Rattle.typed.specs.declared.left_recursion.RecursionFault.{RecursionFault}
use Rattle.typed.specs.declared.left_recursion.RecursionFault.TheVariants.{Refused, Recursive}

-- what the check answers
abbrev pub TextRecursion : Type 0
TextRecursion = Result Unit RecursionFault

-- THE CHECK, from a text
pub data TextRecursionSays (text : List ℕ) : TextRecursion → Type 0 where
  unread : {f : Refusal} → ReadSays text (Unread f) → TextRecursionSays text (Err (Refused f))
  passes : {gs : List ℕ} → ReadSays text (Grammar gs) → recursion_refusal gs ≡ no_refusal → TextRecursionSays text (Ok tt)
  recursive :
      {gs : List ℕ} {ds : List Definition} {k line offset : ℕ} → LegalText text ds → ReadSays text (Grammar gs) →
      recursion_refusal gs ≡ refusal 19 k → LineOfRule ds k line → NameAt text ds line offset → TextRecursionSays text (Err (Recursive k offset))
