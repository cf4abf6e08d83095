-- A run of the check that ends after a line has read a legal text: what is ahead of each spot, put together from the text's end. Assumes nothing.
use mathlib.Core.Path.{◌≡◌, sym, ◌∙◌}
use mathlib.Core.Bool.{Bool, true, false}
use mathlib.Core.List.{List, [], ◌∷◌, ◌++◌, append_assoc, append-nil}
use Prim.Native.Nat.{ℕ, suc, ◌<◌, ◌-◌}
use native.Mathlib.Omega.{arith}
use Rattle.machine.specs.Verdicts.{Distinct, nil}
use Rattle.syntax.specs.declared.Prefix.{Prefix}
use Rattle.syntax.specs.declared.Suffix.{Suffix}
use Rattle.syntax.specs.declared.Sign.TheVariants.{Before, After, Slash, Opening, Closing, Equals, Semicolon}
use Rattle.syntax.specs.Tokens.{Token, name, sign}
use Rattle.syntax.specs.Trees.{Tree, Definition, names, choices, prefixes, suffixes, Derives, last_choice, more_choices, last_part, more_parts, no_prefix, a_prefix, no_suffix, a_suffix, a_name, a_leaf, a_range, brackets, Reads, last_line, more_lines, Legal}
use Rattle.syntax.specs.Faults.{Spot, at_line, at_equals, inside, defined_after, name_of}
use Rattle.syntax.proofs.NamesApart.{not_in_lacks, one_more}
use Rattle.syntax.proofs.Automaton.{Moves, begins, equals, by_name, by_leaf, by_range, by_prefix, by_suffix, by_slash, opens, closes, ends, Run, stay, move}

-- AFTER A PART of a sequence: further parts and alternatives, up to vs
data Further (d : ℕ) : List Token → (vs : List Token) → Type 0 where
  no_more : {vs : List Token} → Further d vs vs
  a_part : {us ws vs : List Token} {e : Tree} → Derives prefixes d us e ws → Further d ws vs → Further d us vs
  an_alternative : {us ws vs : List Token} {e : Tree} → Derives prefixes d us e ws → Further d ws vs → Further d (sign Slash ∷ us) vs

-- an expression, by its first part
record Expressed (d : ℕ) (us vs : List Token) : Type 0 where
  rest : List Token
  tree : Tree
  first : Derives prefixes d us tree rest
  further : Further d rest vs

record Chosen (d : ℕ) (us vs : List Token) : Type 0 where
  tree : Tree
  derived : Derives choices d us tree vs

-- a part before an expression
in_front : {d : ℕ} {ts us vs : List Token} {e f : Tree} → Derives prefixes d ts e us → Derives choices d us f vs → Chosen d ts vs
in_front x (last_choice y) = record { tree = _; derived = last_choice (more_parts x y) }
in_front x (more_choices y z) = record { tree = _; derived = more_choices (more_parts x y) z }

chosen : {d : ℕ} {ts us vs : List Token} {e : Tree} → Further d us vs → Derives prefixes d ts e us → Chosen d ts vs
chosen no_more x = record { tree = _; derived = last_choice (last_part x) }
chosen (a_part y more) x = in_front x (chosen more y).derived
chosen (an_alternative y more) x = record { tree = _; derived = more_choices (last_part x) (chosen more y).derived }

-- AHEAD WITHIN ONE PAIR OF BRACKETS, up to vs: an expression, or what follows a complete operand
data Piece (d : ℕ) : (complete : Bool) → List Token → (vs : List Token) → Type 0 where
  whole : {us vs : List Token} → Expressed d us vs → Piece d false us vs
  after_part : {us vs : List Token} → Further d us vs → Piece d true us vs
  after_suffix : {x : Suffix} {us vs : List Token} → Piece d true us vs → Piece d true (sign (After x) ∷ us) vs

-- an operand and what follows it
taken : {d : ℕ} {ts us vs : List Token} {e : Tree} → Piece d true us vs → Derives suffixes d ts e us → Expressed d ts vs
taken (after_part more) x = record { rest = _; tree = _; first = no_prefix x; further = more }
taken (after_suffix p) x = taken p (a_suffix x)

-- an expression is ahead of either kind of spot: after a complete operand it goes on with a part
as_piece : {d : ℕ} {us vs : List Token} (c : Bool) → Expressed d us vs → Piece d c us vs
as_piece false x = whole x
as_piece true x = after_part (a_part x.first x.further)

expressed : {d : ℕ} {us vs : List Token} → Piece d false us vs → Expressed d us vs
expressed (whole x) = x

-- AHEAD WITH SO MANY BRACKETS OPEN, up to the line's end
data Nested (L : ℕ) : (complete : Bool) → (opened : ℕ) → List Token → (vs : List Token) → Type 0 where
  outermost : {c : Bool} {us vs : List Token} → Piece (L - 0) c us (sign Semicolon ∷ vs) → Nested L c 0 us vs
  within :
      {c : Bool} {k : ℕ} {us ws vs : List Token} → Piece (L - suc k) c us (sign Closing ∷ ws) → Nested L true k ws vs →
      Nested L c (suc k) us vs

-- one token more, within the innermost brackets
one_token :
    {L k : ℕ} {b c : Bool} {ts us vs : List Token} → ((ws : List Token) → Piece (L - k) b us ws → Piece (L - k) c ts ws) →
    Nested L b k us vs → Nested L c k ts vs
one_token f (outermost p) = outermost (f _ p)
one_token f (within p n) = within (f _ p) n

operand_before :
    {L k : ℕ} {ts us vs : List Token} {e : Tree} (c : Bool) → Derives suffixes (L - k) ts e us → Nested L true k us vs → Nested L c k ts vs
operand_before c x = one_token (λ ws p. as_piece c (taken p x))

prefix_before :
    {L k : ℕ} {us vs : List Token} {p : Prefix} (c : Bool) → Nested L false k us vs → Nested L c k (sign (Before p) ∷ us) vs
prefix_before c = one_token (λ ws w. as_piece c (go (expressed w)))
  where
    go : {d : ℕ} {us ws : List Token} {p : Prefix} → Expressed d us ws → Expressed d (sign (Before p) ∷ us) ws
    go x = record { rest = _; tree = _; first = a_prefix x.first; further = x.further }

brackets_before :
    {L k : ℕ} {us vs : List Token} (c : Bool) → k < L → Nested L false (suc k) us vs → Nested L c k (sign Opening ∷ us) vs
brackets_before {L} {k} c h (within (whole x) n) =
    let one_less : suc (L - suc k) ≡ L - k = omega arith in
    operand_before c (no_suffix (rw one_less at (brackets (chosen x.further x.first).derived))) n

-- LINES, also none
data Lines (L : ℕ) : List Token → List Definition → Type 0 where
  no_lines : Lines L [] []
  a_line :
      {n : List ℕ} {ts us : List Token} {e : Tree} {ds : List Definition} → Derives choices L ts e (sign Semicolon ∷ us) → Lines L us ds →
      Lines L (name n ∷ sign Equals ∷ ts) (record { letters = n; body = e } ∷ ds)

reads_lines :
    {L : ℕ} {n : List ℕ} {ts us : List Token} {e : Tree} {ds : List Definition} → Derives choices L ts e (sign Semicolon ∷ us) →
    Lines L us ds → Reads L (name n ∷ sign Equals ∷ ts) (record { letters = n; body = e } ∷ ds)
reads_lines x no_lines = last_line x
reads_lines x (a_line y more) = more_lines x (reads_lines y more)

-- AHEAD OF A SPOT, with the names ns defined, up to a text's end, with the names ms
data Ahead (L : ℕ) (ms ns : List (List ℕ)) : Spot → List Token → Type 0 where
  lines_ahead : {us : List Token} {ds : List Definition} → Lines L us ds → ms ≡ ns ++ names ds → Ahead L ms ns at_line us
  body_ahead :
      {us vs : List Token} {e : Tree} {ds : List Definition} → Derives choices L us e (sign Semicolon ∷ vs) → Lines L vs ds →
      ms ≡ ns ++ names ds → Ahead L ms ns at_equals (sign Equals ∷ us)
  nested_ahead :
      {c : Bool} {k : ℕ} {us vs : List Token} {ds : List Definition} → Nested L c k us vs → Lines L vs ds → ms ≡ ns ++ names ds →
      Ahead L ms ns (inside c k) us

before_move :
    {L : ℕ} {ms ns : List (List ℕ)} {r s : Spot} {t : Token} {ts : List Token} → Moves L ns r t s → Ahead L ms (defined_after ns r t) s ts →
    Ahead L ms ns r (t ∷ ts)
unfolding defined_after name_of
before_move {ns = ns} (begins {n = n} q) (body_ahead {ds = ds} x l e) = lines_ahead (a_line x l) (e ∙ append_assoc ns (n ∷ []) (names ds))
before_move {L} equals (nested_ahead (outermost (whole x)) l e) =
    let all : L - 0 ≡ L = omega arith in
    let y = rw all at x in
    body_ahead (chosen y.further y.first).derived l e
before_move (by_name {c = c}) (nested_ahead n l e) = nested_ahead (operand_before c (no_suffix a_name) n) l e
before_move (by_leaf {c = c}) (nested_ahead n l e) = nested_ahead (operand_before c (no_suffix a_leaf) n) l e
before_move (by_range {c = c}) (nested_ahead n l e) = nested_ahead (operand_before c (no_suffix a_range) n) l e
before_move (by_prefix {c = c}) (nested_ahead n l e) = nested_ahead (prefix_before c n) l e
before_move by_suffix (nested_ahead n l e) = nested_ahead (one_token (λ ws p. after_suffix p) n) l e
before_move by_slash (nested_ahead n l e) =
    nested_ahead (one_token (λ ws p. let x = expressed p in after_part (an_alternative x.first x.further)) n) l e
before_move (opens {c = c} h) (nested_ahead n l e) = nested_ahead (brackets_before c h n) l e
before_move closes (nested_ahead n l e) = nested_ahead (within (after_part no_more) n) l e
before_move ends (lines_ahead l e) = nested_ahead (outermost (after_part no_more)) l e

ahead : {L : ℕ} {ns ms : List (List ℕ)} {s : Spot} {ts : List Token} → Run L ns s ts ms at_line → Ahead L ms ns s ts
ahead {ns = ns} stay = lines_ahead no_lines (sym (append-nil ns))
ahead (move m x) = before_move m (ahead x)

-- no name is defined twice
moves_distinct : {L : ℕ} {ns : List (List ℕ)} {r s : Spot} {t : Token} → Moves L ns r t s → Distinct ns → Distinct (defined_after ns r t)
unfolding defined_after name_of
moves_distinct {ns = ns} (begins {n = n} e) h = one_more h (not_in_lacks n ns e)
moves_distinct equals h = h
moves_distinct by_name h = h
moves_distinct by_leaf h = h
moves_distinct by_range h = h
moves_distinct by_prefix h = h
moves_distinct by_suffix h = h
moves_distinct by_slash h = h
moves_distinct (opens l) h = h
moves_distinct closes h = h
moves_distinct ends h = h

run_distinct : {L : ℕ} {ns ms : List (List ℕ)} {r s : Spot} {ts : List Token} → Run L ns r ts ms s → Distinct ns → Distinct ms
run_distinct stay h = h
run_distinct (move m x) h = run_distinct x (moves_distinct m h)

read_legal :
    {L : ℕ} {n : List ℕ} {ms : List (List ℕ)} {ts : List Token} → Ahead L (n ∷ ms) [] at_line ts → Distinct (n ∷ ms) →
    (ds : List Definition) × Legal L ts ds
read_legal (lines_ahead no_lines e) h = absurd (let z : ◌≡◌ {A = ℕ} 0 1 = cc in omega arith)
read_legal (lines_ahead (a_line x l) e) h = (_, record { reads = reads_lines x l; distinct = rw e at h })

-- A RUN FROM THE START THAT ENDS AFTER A LINE
pub run_legal :
    {L : ℕ} {n : List ℕ} {ms : List (List ℕ)} {ts : List Token} → Run L [] at_line ts (n ∷ ms) at_line → (ds : List Definition) × Legal L ts ds
run_legal x = read_legal (ahead x) (run_distinct x nil)
