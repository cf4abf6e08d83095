-- What a typed grammar means, on its trees, by the equations of paper 004 for R, a line each: an expression at a place of the capture gives the place after what it consumed, or fails; where the equations give nothing, nothing is derived. Assumes nothing: these are definitions.
use Rattle.std.specs.Prelude.{◌≡◌, true, false, ◌&&◌, List, ℕ, suc, ◌<◌, ltb, length}
use Rattle.std.proofs.Math.Option.{Option, none, some}
use Rattle.codec.specs.Bytes.{byte}
use Rattle.grammar.specs.Parsing.{in_range}
use Rattle.syntax.specs.declared.Leaf.TheVariants.{AnyByte, EmptyString, Failure}
use Rattle.syntax.specs.declared.Prefix.TheVariants.{NotPredicate, AndPredicate}
use Rattle.syntax.specs.declared.Suffix.TheVariants.{ZeroOrMore, OneOrMore, Optional}
use Rattle.syntax.specs.Trees.{Tree, nonterminal, leaf, bytes, prefixed, suffixed, sequence, choice, Definition, Defines}

pub data Means (ds : List Definition) (cs : List ℕ) : Tree → (i : ℕ) → Option ℕ → Type 0 where
  call : {k i : ℕ} {n : List ℕ} {e : Tree} {o : Option ℕ} → Defines ds k n e → Means ds cs e i o → Means ds cs (nonterminal n) i o
  byte_in : {l h i : ℕ} → i < length cs → in_range l h (byte cs i) ≡ true → Means ds cs (bytes l h) i (some (suc i))
  byte_out : {l h i : ℕ} → (ltb i (length cs) && in_range l h (byte cs i)) ≡ false → Means ds cs (bytes l h) i none
  nothing : {i : ℕ} → Means ds cs (leaf EmptyString) i (some i)
  both : {e f : Tree} {i j : ℕ} {o : Option ℕ} → Means ds cs e i (some j) → Means ds cs f j o → Means ds cs (sequence e f) i o
  first_fails : {e f : Tree} {i : ℕ} → Means ds cs e i none → Means ds cs (sequence e f) i none
  one : {e f : Tree} {i j : ℕ} → Means ds cs e i (some j) → Means ds cs (choice e f) i (some j)
  other : {e f : Tree} {i : ℕ} {o : Option ℕ} → Means ds cs e i none → Means ds cs f i o → Means ds cs (choice e f) i o
  absent : {e : Tree} {i : ℕ} → Means ds cs e i none → Means ds cs (prefixed NotPredicate e) i (some i)
  present : {e : Tree} {i j : ℕ} → Means ds cs e i (some j) → Means ds cs (prefixed NotPredicate e) i none
  -- abbreviations: . is any byte; F = !ε; &e = !(!e); e* is A ← eA / ε; e+ = ee*; e? is A ← e / ε
  any_byte : {i : ℕ} {o : Option ℕ} → Means ds cs (bytes 0 255) i o → Means ds cs (leaf AnyByte) i o
  failure : {i : ℕ} {o : Option ℕ} → Means ds cs (prefixed NotPredicate (leaf EmptyString)) i o → Means ds cs (leaf Failure) i o
  predicate :
      {e : Tree} {i : ℕ} {o : Option ℕ} → Means ds cs (prefixed NotPredicate (prefixed NotPredicate e)) i o →
      Means ds cs (prefixed AndPredicate e) i o
  iteration :
      {e : Tree} {i : ℕ} {o : Option ℕ} → Means ds cs (choice (sequence e (suffixed ZeroOrMore e)) (leaf EmptyString)) i o →
      Means ds cs (suffixed ZeroOrMore e) i o
  iteration_once :
      {e : Tree} {i : ℕ} {o : Option ℕ} → Means ds cs (sequence e (suffixed ZeroOrMore e)) i o → Means ds cs (suffixed OneOrMore e) i o
  optional : {e : Tree} {i : ℕ} {o : Option ℕ} → Means ds cs (choice e (leaf EmptyString)) i o → Means ds cs (suffixed Optional e) i o
