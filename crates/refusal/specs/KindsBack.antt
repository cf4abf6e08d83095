-- A refusal is given back by its number and place: its kind is the one that has the number. Assumes nothing.
use Rattle.std.specs.Prelude.{◌≡◌, refl}
use Rattle.refusal.specs.declared.Kind.{Kind}
use Rattle.refusal.specs.declared.Kind.TheVariants.{ImageShort, Directory, Counts, RulesLength, ClassMap, Rule, CaptureLong, NotesShort, WorkShort, NoStack, GrammarLength, GrammarRule, ImageBufferShort, Input, Ungrammatical, TooManyRules, TooDeep, Bundle, LeftRecursion}
use Rattle.refusal.specs.declared.Refusal.TheInside.{Inside}
use Rattle.refusal.specs.Kinds.{number_of, kind_numbered}
use Rattle.std.proofs.Common.{ap}

kind_back : (k : Kind) → kind_numbered (number_of k) ≡ k
kind_back ImageShort = refl
kind_back Directory = refl
kind_back Counts = refl
kind_back RulesLength = refl
kind_back ClassMap = refl
kind_back Rule = refl
kind_back CaptureLong = refl
kind_back NotesShort = refl
kind_back WorkShort = refl
kind_back NoStack = refl
kind_back GrammarLength = refl
kind_back GrammarRule = refl
kind_back ImageBufferShort = refl
kind_back Input = refl
kind_back Ungrammatical = refl
kind_back TooManyRules = refl
kind_back TooDeep = refl
kind_back Bundle = refl
kind_back LeftRecursion = refl

abbrev pub inside : (kind : Kind) → (f : Inside) → Inside
inside k f = record { kind = k; place = f.place }

pub same_kind : (f : Inside) → inside (kind_numbered (number_of f.kind)) f ≡ f
same_kind f = ap (λ (k : Kind). inside k f) (kind_back f.kind)
