-- The names that lines begin with, told from the tokens alone, are the names of the lines. Assumes nothing.
use mathlib.Core.Path.{◌≡◌, refl, ap, ◌∙◌}
use mathlib.Core.Bool.{true, false}
use mathlib.Core.List.{List, ◌∷◌}
use Prim.Native.Nat.{ℕ}
use Rattle.syntax.specs.Tokens.{Token, ends_line}
use Rattle.syntax.specs.Trees.{Tree, Definition, names, Level, Derives, last_choice, more_choices, last_part, more_parts, no_prefix, a_prefix, no_suffix, a_suffix, a_name, a_leaf, a_range, brackets, Reads, last_line, more_lines}
use Rattle.syntax.specs.Code.Heads.{head_of, heads_from}

-- an expression's tokens have no semicolon
passed : {v : Level} {d : ℕ} {ts us : List Token} {e : Tree} → Derives v d ts e us → heads_from false ts ≡ heads_from false us
unfolding heads_from head_of ends_line
passed (last_choice x) = passed x
passed (more_choices x y) = passed x ∙ passed y
passed (last_part x) = passed x
passed (more_parts x y) = passed x ∙ passed y
passed (no_prefix x) = passed x
passed (a_prefix x) = passed x
passed (no_suffix x) = passed x
passed (a_suffix x) = passed x
passed a_name = refl
passed a_leaf = refl
passed a_range = refl
passed (brackets x) = passed x

-- THE HEADS ARE THE LINES' NAMES
pub heads_are : {d : ℕ} {ts : List Token} {ds : List Definition} → Reads d ts ds → heads_from true ts ≡ names ds
unfolding heads_from head_of ends_line
heads_are (last_line {n = n} x) = ap (λ hs. n ∷ hs) (passed x)
heads_are (more_lines {n = n} x r) = ap (λ hs. n ∷ hs) (passed x ∙ heads_are r)
