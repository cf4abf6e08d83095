-- Reading the lines one after another: what is read of them, and what is left. Assumes nothing.
use mathlib.Core.Path.{◌≡◌, refl, sym, ap, subst, ◌∙◌}
use mathlib.Core.Bool.{true, false}
use mathlib.Core.List.{List, [], ◌∷◌, ◌++◌, append_assoc, append-nil}
use Prim.Native.Nat.{ℕ, suc, ◌+◌, ◌-◌, ◌*◌, ◌<◌, ◌≤◌}
use native.Mathlib.Decide.{ℕ_discrete}
use native.Mathlib.Omega.{arith}
use lib.ListN.{length, get_or, set, drop, replicate, length-append, length-set}
use lib.Seq.{get_or-set_same, get_or-set_other, drop-drop}
use borrow.Author.Tests.{leb-false, leb-true}
use Rattle.grammar.specs.Grammar.{max_rules}
use Rattle.grammar.specs.declared.Expression.{Expression}
use Rattle.syntax.specs.declared.Sign.TheVariants.{Equals, Semicolon}
use Rattle.syntax.specs.Tokens.{Token, name, sign}
use Rattle.syntax.specs.Trees.{Definition, choices, Derives, Reads, last_line, more_lines, max_depth}
use Rattle.syntax.specs.Needs.{line_need, needs}
use Rattle.syntax.specs.Compile.{Compiled, compile, line_rule, line_helpers, named_from, helpers_from, encode}
use Rattle.syntax.specs.RuleLines.{first_helper}
use Rattle.syntax.specs.Code.Heads.{heads}
use Rattle.syntax.proofs.Counting.{line_counted, helpers_counted}
use Rattle.syntax.proofs.RuleLines.{helper_first}
use Rattle.expressions.specs.declared.Rules.{Rules}
use Rattle.expressions.specs.declared.Unfit.{Unfit}
use Rattle.std.specs.Prelude.{Ok, Err}
use Rattle.reader.specs.Calls.{padded}
use Rattle.expressions.specs.Code.Building.{rule_put, put_rules}
use Rattle.scanner.specs.Code.Scanning.{tokens_at}
use Rattle.reader.specs.Code.Lines.{LineRead, LineRoom, LineIsRead, LinesRoom, EndsKept, LinesMade, LinesRead}
use Rattle.reader.proofs.Tables.{table, named_written, helpers_written, table_first, table_last}
use Rattle.expressions.proofs.Lookings.{clash}

-- tokens that are so many lines, or none are left to read
pub data RestReads : List Token → List Definition → Type 0 where
  none_left : {ts : List Token} → RestReads ts []
  some_left : {ts : List Token} {d : Definition} {ds : List Definition} → Reads max_depth ts (d ∷ ds) → RestReads ts (d ∷ ds)

-- the first of them
pub record FirstLine (ts : List Token) (d : Definition) (ds : List Definition) : Type 0 where
  pub body : List Token
  pub later : List Token
  pub tokens_are : ts ≡ name d.letters ∷ sign Equals ∷ body
  pub derived : Derives choices max_depth body d.body (sign Semicolon ∷ later)
  pub reads : RestReads later ds

first_line : {ts : List Token} {d : Definition} {ds : List Definition} → Reads max_depth ts (d ∷ ds) → FirstLine ts d ds
first_line (last_line x) = record { body = _; later = []; tokens_are = refl; derived = x; reads = none_left }
first_line (more_lines {us = us} {ds = []} x r) = record { body = _; later = us; tokens_are = refl; derived = x; reads = none_left }
first_line (more_lines {us = us} {ds = d ∷ ds} x r) = record { body = _; later = us; tokens_are = refl; derived = x; reads = some_left r }

-- SO FAR: k lines are read, and their rules stand in the table; the others are left
pub record LinesLeft (text : List ℕ) (lines : ℕ) (ds : List Definition) (place k : ℕ) (rules : Rules) : Type 0 where
  pub rest : List Definition
  pub named : List Expression
  pub helpers : List Expression
  pub reads : RestReads (tokens_at text place) rest
  pub rest_is : rest ≡ drop k ds
  pub count : k + length rest ≡ lines
  pub named_count : length named ≡ k
  pub helpers_count : lines + length helpers ≡ rules.next
  pub all_named : named_from (heads text) 0 lines ds ≡ named ++ named_from (heads text) k rules.next rest
  pub all_helpers : helpers_from (heads text) 0 lines ds ≡ helpers ++ helpers_from (heads text) k rules.next rest
  pub bytes : rules.bytes ≡ table lines named helpers

-- and for each line that is read, it is kept where its rules end
abbrev pub ReadingLines : (text : List ℕ) → (at lines place k : ℕ) → Rules → (ends : List ℕ) → Type 0
ReadingLines text at lines place k rules ends =
    (k ≤ lines) × (rules.next ≤ max_rules) × (length ends ≡ max_rules)
    × ((ds : List Definition) → Reads max_depth (tokens_at text at) ds → length ds ≡ lines → LinesLeft text lines ds place k rules × EndsKept ds k ends)

-- AT FIRST
whole : {ts : List Token} {ds : List Definition} → Reads max_depth ts ds → RestReads ts ds
whole (last_line x) = some_left (last_line x)
whole (more_lines x r) = some_left (more_lines x r)

pub lines_start :
    (text : List ℕ) (at lines left : ℕ) (zeros ends : List ℕ) → LinesRoom text lines → zeros ≡ replicate (4 * max_rules) 0 → length ends ≡ max_rules →
    ReadingLines text at lines at 0 (record { bytes = zeros; next = lines; left = left }) ends
lines_start text at lines left zeros ends room z long = (
  omega arith,
  room.few,
  long,
  λ ds r e. (
    record {
      rest = ds;
      named = [];
      helpers = [];
      reads = whole r;
      rest_is = refl;
      count = omega (arith, e);
      named_count = refl;
      helpers_count = omega arith;
      all_named = refl;
      all_helpers = refl;
      bytes = z ∙ table_first lines room.few;
    },
    λ j h. clash (omega arith),
  ),
)

pub line_needs : (text : List ℕ) (at lines place k : ℕ) (rules : Rules) (ends : List ℕ) → LinesRoom text lines → ReadingLines text at lines place k rules ends → k < lines → LineRoom text k rules
line_needs text at lines place k rules ends room left h =
    record { few = omega (arith, room.few, room.names); below = omega (arith, room.few); fit = left.1 }

-- ONE LINE MORE, or one that needs too many rules
line_step :
    (text : List ℕ) (lines : ℕ) (ds : List Definition) (place k : ℕ) (rules : Rules) (left : LinesLeft text lines ds place k rules) → length ds ≡ lines →
    rules.next ≤ max_rules → k < lines → (r : LineRead) → LineIsRead text place k rules r → (d : Definition) (es : List Definition) →
    FirstLine (tokens_at text place) d es → d ∷ es ≡ drop k ds → k + suc (length es) ≡ lines →
    named_from (heads text) 0 lines ds ≡ left.named ++ named_from (heads text) k rules.next (d ∷ es) →
    helpers_from (heads text) 0 lines ds ≡ left.helpers ++ helpers_from (heads text) k rules.next (d ∷ es) →
    (r.fits ≡ false → max_rules < needs ds) × (r.fits ≡ true → LinesLeft text lines ds r.at (k + 1) r.rules)
unfolding named_from helpers_from
line_step text lines ds place k rules left size fit more r read d es f is count a b =
    let ns = heads text in
    let c : Compiled = compile ns d.body rules.next in
    let hs : List Expression = line_helpers c k in
    let own : Expression = line_rule c rules.next in
    let m : ℕ = rules.next + length hs in
    let counted : suc (length hs) ≡ line_need d.body = line_counted ns d.body rules.next k in
    let fits = read.fits d.letters f.body f.later d.body f.tokens_are f.derived in
    let all : length ds + length (helpers_from ns 0 lines ds) ≡ needs ds = helpers_counted ns 0 lines ds in
    let sum : length (helpers_from ns 0 lines ds) ≡ length left.helpers + (length hs + length (helpers_from ns (suc k) m es)) =
    ap length b ∙ length-append left.helpers (hs ++ helpers_from ns (suc k) m es)
    ∙ ap (λ (n : ℕ). length left.helpers + n) (length-append hs (helpers_from ns (suc k) m es))
    in (
      λ over.
          let lt = leb-false (line_need d.body) (suc max_rules - rules.next) (sym fits ∙ over) in
          omega (arith, left.helpers_count),
      λ ok.
          let le = leb-true (line_need d.body) (suc max_rules - rules.next) (sym fits ∙ ok) in
          let done = read.done d.letters f.body f.later d.body f.tokens_are f.derived ok in
          let one : k + 1 ≡ suc k = omega arith in
          let put : put_rules rules.bytes rules.next hs ≡ table lines left.named (left.helpers ++ hs) =
          ap (λ (bs : List ℕ). put_rules bs rules.next hs) left.bytes
          ∙ ap (λ (n : ℕ). put_rules (table lines left.named left.helpers) n hs) (sym left.helpers_count)
          ∙ helpers_written lines left.named left.helpers hs (omega (arith, left.named_count)) (omega (arith, left.helpers_count))
          in
          let bytes : r.rules.bytes ≡ table lines (left.named ++ (own ∷ [])) (left.helpers ++ hs) =
          done.bytes ∙ ap (λ (bs : List ℕ). rule_put bs k own) put
          ∙ ap (λ (n : ℕ). rule_put (table lines left.named (left.helpers ++ hs)) n own) (sym left.named_count)
          ∙ named_written lines left.named (left.helpers ++ hs) own (omega (arith, left.named_count)) (omega (arith, left.helpers_count, length-append left.helpers hs))
          in
          record {
            rest = es;
            named = left.named ++ (own ∷ []);
            helpers = left.helpers ++ hs;
            reads = subst (λ (ts : List Token). RestReads ts es) (sym done.rest) f.reads;
            rest_is = ap (drop 1) is ∙ drop-drop 1 k ds;
            count = omega arith;
            named_count = length-append left.named (own ∷ []) ∙ omega (arith, left.named_count);
            helpers_count = omega (arith, left.helpers_count, length-append left.helpers hs, done.next);
            all_named =
                a ∙ sym (append_assoc left.named (own ∷ []) (named_from ns (suc k) m es))
                ∙ ap (λ (n : ℕ). (left.named ++ (own ∷ [])) ++ named_from ns (suc k) n es) (sym done.next)
                ∙ ap (λ (n : ℕ). (left.named ++ (own ∷ [])) ++ named_from ns n r.rules.next es) (sym one);
            all_helpers =
                b ∙ sym (append_assoc left.helpers hs (helpers_from ns (suc k) m es))
                ∙ ap (λ (n : ℕ). (left.helpers ++ hs) ++ helpers_from ns (suc k) n es) (sym done.next)
                ∙ ap (λ (n : ℕ). (left.helpers ++ hs) ++ helpers_from ns n r.rules.next es) (sym one);
            bytes = bytes;
          },
    )

module _ (text : List ℕ) (lines : ℕ) (ds : List Definition) (place k : ℕ) (rules : Rules) (left : LinesLeft text lines ds place k rules) (size : length ds ≡ lines)
    (fit : rules.next ≤ max_rules) (more : k < lines) (r : LineRead) (read : LineIsRead text place k rules r) where
  abbrev Result : Type 0
  Result = (r.fits ≡ false → max_rules < needs ds) × (r.fits ≡ true → LinesLeft text lines ds r.at (k + 1) r.rules)

  next_line : Result
  next_line = go left.rest left.reads left.rest_is left.count left.all_named left.all_helpers
    where
      go : (es : List Definition) → RestReads (tokens_at text place) es → es ≡ drop k ds → k + length es ≡ lines →
          named_from (heads text) 0 lines ds ≡ left.named ++ named_from (heads text) k rules.next es →
          helpers_from (heads text) 0 lines ds ≡ left.helpers ++ helpers_from (heads text) k rules.next es → Result
      go [] reads is count a b = clash (omega arith)
      go (d ∷ es) (some_left reads) is count a b =
          line_step text lines ds place k rules left size fit more r read d es (first_line reads) is count a b

-- THE NEXT NUMBER, after k lines, is that of the first helper rule of line k
next_is :
    (text : List ℕ) (lines : ℕ) (ds : List Definition) (place k : ℕ) (rules : Rules) → LinesLeft text lines ds place k rules → length ds ≡ lines →
    rules.next ≡ first_helper ds k
next_is text lines ds place k rules left size =
    let ns = heads text in
    let later = helpers_from ns k rules.next left.rest in
    omega (
      arith,
      left.count,
      left.helpers_count,
      ap length left.all_helpers ∙ length-append left.helpers later,
      helpers_counted ns 0 lines ds,
      helpers_counted ns k rules.next left.rest,
      ap needs left.rest_is,
      helper_first ds k (omega (arith, left.count)),
    )

-- so where the rules of the line just read end is kept too
ends_next :
    (ds : List Definition) (k : ℕ) (ends : List ℕ) (n : ℕ) → EndsKept ds k ends → k < length ends → n ≡ first_helper ds (k + 1) → EndsKept ds (k + 1) (set ends k n)
ends_next ds k ends n kept room is j h = go (ℕ_discrete j k)
  where
    go : Dec (j ≡ k) → get_or (set ends k n) j 0 ≡ first_helper ds (suc j)
    go (yes e) =
        let one : k + 1 ≡ suc j = omega arith in
        ap (λ (i : ℕ). get_or (set ends k n) i 0) e ∙ get_or-set_same ends k n 0 room ∙ is ∙ ap (first_helper ds) one
    go (no e) = get_or-set_other ends k j n 0 e ∙ kept j (omega arith)

-- WHAT THE LOOP ANSWERS
pub lines_over :
    (text : List ℕ) (at lines place k : ℕ) (rules : Rules) (ends : List ℕ) → ReadingLines text at lines place k rules ends → k < lines → (l : LineRead) →
    LineIsRead text place k rules l → l.fits ≡ false → (e : Unfit) → LinesRead text at lines (Err e)
lines_over text at lines place k rules ends (le, fit, long, left) more l read over e ds r size =
    (next_line text lines ds place k rules (left ds r size).0 size fit more l read).0 over

pub lines_next :
    (text : List ℕ) (at lines place k : ℕ) (rules : Rules) (ends : List ℕ) → ReadingLines text at lines place k rules ends → lines ≤ max_rules → k < lines → (l : LineRead) →
    LineIsRead text place k rules l → l.fits ≡ true → ReadingLines text at lines l.at (k + 1) l.rules (set ends k l.rules.next)
lines_next text at lines place k rules ends (le, fit, long, left) few more l read ok = (
  omega arith,
  read.room ok,
  length-set ends k l.rules.next ∙ long,
  λ ds r size.
      let after = (next_line text lines ds place k rules (left ds r size).0 size fit more l read).1 ok in
      (after, ends_next ds k ends l.rules.next (left ds r size).1 (omega arith) (next_is text lines ds l.at (k + 1) l.rules after size)),
)

pub lines_end :
    (text : List ℕ) (at lines place k : ℕ) (rules : Rules) (ends : List ℕ) → ReadingLines text at lines place k rules ends → lines ≤ k →
    LinesRead text at lines (Ok (record { rules = rules; ends = ends }))
unfolding named_from helpers_from
lines_end text at lines place k rules ends (le, fit, long, left) end ds r size =
    go (left ds r size).0 (left ds r size).0.rest refl
  where
    go : (l : LinesLeft text lines ds place k rules) → (es : List Definition) → l.rest ≡ es → LinesMade text ds (record { rules = rules; ends = ends })
    go l (d ∷ es) e = clash (omega (arith, l.count, ap length e))
    go l [] e =
        let ns = heads text in
        let named : named_from ns 0 lines ds ≡ l.named =
        l.all_named ∙ ap (λ (es : List Definition). l.named ++ named_from ns k rules.next es) e ∙ append-nil l.named
        in
        let helpers : helpers_from ns 0 lines ds ≡ l.helpers =
        l.all_helpers ∙ ap (λ (es : List Definition). l.helpers ++ helpers_from ns k rules.next es) e ∙ append-nil l.helpers
        in
        let all : length ds + length (helpers_from ns 0 lines ds) ≡ needs ds = helpers_counted ns 0 lines ds in
        let needed : rules.next ≡ needs ds = omega (arith, l.helpers_count, ap length helpers) in
        let count : length l.named ≡ lines = omega (arith, l.named_count) in
        record {
          enough = omega arith;
          count = needed;
          bytes =
              l.bytes ∙ table_last lines l.named l.helpers count (omega (arith, l.helpers_count))
              ∙ ap (λ (xs : List Expression). padded (encode (xs ++ l.helpers))) (sym named)
              ∙ ap (λ (xs : List Expression). padded (encode (named_from ns 0 lines ds ++ xs))) (sym helpers)
              ∙ ap (λ (n : ℕ). padded (encode (named_from ns 0 n ds ++ helpers_from ns 0 n ds))) (sym size);
          ends = λ j h. (left ds r size).1 j (omega arith);
        }
