-- The check runs through a legal text and ends after a line; and the tokens it runs through are those by which a legal text can begin. Assumes nothing.
use mathlib.Core.Bool.{Bool, true, false}
use mathlib.Core.List.{List, [], ◌∷◌, ◌++◌, append_assoc}
use Prim.Native.Nat.{ℕ, zero, suc, ◌+◌, ◌≤◌}
use native.Mathlib.Omega.{arith}
use Rattle.machine.specs.Verdicts.{Distinct}
use Rattle.syntax.specs.declared.Leaf.TheVariants.{AnyByte}
use Rattle.syntax.specs.declared.Sign.TheVariants.{Operand, Closing, Equals, Semicolon}
use Rattle.syntax.specs.Tokens.{Token, sign}
use Rattle.syntax.specs.Trees.{Tree, Definition, names, Level, Derives, last_choice, more_choices, last_part, more_parts, no_prefix, a_prefix, no_suffix, a_suffix, a_name, a_leaf, a_range, brackets, Reads, last_line, more_lines, Legal}
use Rattle.syntax.specs.Faults.{Spot, at_line, at_equals, inside, defined_after, name_of}
use Rattle.syntax.specs.FaultMeaning.{Viable}
use Rattle.syntax.proofs.NamesApart.{lacks_not_in, not_before, new_name, new_name_new}
use Rattle.syntax.proofs.Automaton.{begins, equals, by_name, by_leaf, by_range, by_prefix, by_suffix, by_slash, opens, closes, ends, Run, stay, move, run_append, parted}
use Rattle.syntax.proofs.RunLegal.{run_legal}

-- THROUGH AN EXPRESSION, and on from the complete operand that it is
through :
    {L : ℕ} {ns ms : List (List ℕ)} {s : Spot} {v : Level} {d : ℕ} {ts us : List Token} {e : Tree} → Derives v d ts e us → (c : Bool) (k : ℕ) →
    k + d ≤ L → Run L ns (inside true k) us ms s → Run L ns (inside c k) ts ms s
unfolding defined_after
through (last_choice x) c k h r = through x c k h r
through (more_choices x y) c k h r = through x c k h (move by_slash (through y false k h r))
through (last_part x) c k h r = through x c k h r
through (more_parts x y) c k h r = through x c k h (through y true k h r)
through (no_prefix x) c k h r = through x c k h r
through (a_prefix x) c k h r = move by_prefix (through x false k h r)
through (no_suffix x) c k h r = through x c k h r
through (a_suffix x) c k h r = through x c k h (move by_suffix r)
through a_name c k h r = move by_name r
through a_leaf c k h r = move by_leaf r
through a_range c k h r = move by_range r
through (brackets {d = d} x) c k h r = move (opens {k = k} (omega arith)) (through x false (suc k) (omega arith) (move closes r))

-- through lines whose names are new
through_lines :
    {L : ℕ} {ts : List Token} {ds : List Definition} → Reads L ts ds → (ns : List (List ℕ)) → Distinct (ns ++ names ds) →
    Run L ns at_line ts (ns ++ names ds) at_line
unfolding defined_after name_of
through_lines (last_line {n = n} x) ns h =
    move (begins (lacks_not_in n ns (not_before ns n [] h))) (move equals (through x false 0 (omega arith) (move ends stay)))
through_lines {L} (more_lines {n = n} {us = us} {ds = ds} x r) ns h =
    let rest : Run L (ns ++ (n ∷ [])) at_line us (ns ++ (n ∷ names ds)) at_line =
    rw append_assoc at (through_lines r (ns ++ (n ∷ [])) (rw append_assoc h))
    in
    move (begins (lacks_not_in n ns (not_before ns n (names ds) h))) (move equals (through x false 0 (omega arith) (move ends rest)))

-- a legal text has a line
pub legal_run :
    {L : ℕ} {ts : List Token} {ds : List Definition} → Legal L ts ds →
    (n : List ℕ) × (ms : List (List ℕ)) × Run L [] at_line ts (n ∷ ms) at_line
legal_run l = go l.reads l.distinct
  where
    go :
        {L : ℕ} {ts : List Token} {ds : List Definition} → Reads L ts ds → Distinct (names ds) →
        (n : List ℕ) × (ms : List (List ℕ)) × Run L [] at_line ts (n ∷ ms) at_line
    go (last_line {n = n} x) h = (n, [], through_lines (last_line x) [] h)
    go (more_lines {n = n} {ds = ds} x r) h = (n, names ds, through_lines (more_lines x r) [] h)

-- ON TO A LINE'S END from any spot: complete the operand, close the brackets
record ToEnd (L : ℕ) (ns : List (List ℕ)) (s : Spot) : Type 0 where
  tokens : List Token
  run : Run L ns s tokens ns at_line

close_brackets : (L : ℕ) (ns : List (List ℕ)) (k : ℕ) → ToEnd L ns (inside true k)
unfolding defined_after
close_brackets L ns zero = record { tokens = sign Semicolon ∷ []; run = move ends stay }
close_brackets L ns (suc k) =
    let rest = close_brackets L ns k in
    record { tokens = sign Closing ∷ rest.tokens; run = move closes rest.run }

complete : (L : ℕ) (ns : List (List ℕ)) (k : ℕ) → ToEnd L ns (inside false k)
unfolding defined_after
complete L ns k =
    let rest = close_brackets L ns k in
    record { tokens = sign (Operand AnyByte) ∷ rest.tokens; run = move by_leaf rest.run }

body : (L : ℕ) (ns : List (List ℕ)) → ToEnd L ns at_equals
unfolding defined_after
body L ns = let rest = complete L ns 0 in record { tokens = sign Equals ∷ rest.tokens; run = move equals rest.run }

to_end : (L : ℕ) (ns : List (List ℕ)) (s : Spot) → ToEnd L ns s
to_end L ns at_line = record { tokens = []; run = stay }
to_end L ns at_equals = body L ns
to_end L ns (inside true k) = close_brackets L ns k
to_end L ns (inside false k) = complete L ns k

-- THE TOKENS BY WHICH A LEGAL TEXT CAN BEGIN
pub record Passed (L : ℕ) (ts : List Token) : Type 0 where
  pub names : List (List ℕ)
  pub spot : Spot
  pub run : Run L [] at_line ts names spot

pub viable_passed : {L : ℕ} (ts : List Token) → Viable L ts → Passed L ts
viable_passed ts (us, ds, l) =
    let (n, ms, x) = legal_run l in
    let p = parted ts us x in
    record { names = p.names; spot = p.spot; run = p.before }

-- and a line of a new name
pub passed_viable : {L : ℕ} (ts : List Token) → Passed L ts → Viable L ts
unfolding defined_after name_of
passed_viable {L} ts p =
    let ns = p.names in
    let rest = to_end L ns p.spot in
    let line = body L (ns ++ (new_name ns ∷ [])) in
    let whole = run_append p.run (run_append rest.run (move (begins (new_name_new ns)) line.run)) in
    let legal = go ns (new_name ns) whole in
    (_, legal.0, legal.1)
  where
    go :
        {vs : List Token} (ns : List (List ℕ)) (n : List ℕ) → Run L [] at_line vs (ns ++ (n ∷ [])) at_line → (ds : List Definition) × Legal L vs ds
    go [] n x = run_legal x
    go (m ∷ ms) n x = run_legal x
