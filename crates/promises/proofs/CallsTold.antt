-- Reading, building, judging and testing the verdict, joined: by the C calls, by either choice of a match, and by a text. Assumes nothing.
use Rattle.std.specs.Prelude.{Result, Ok, Err}
use mathlib.Core.Path.{◌≡◌, sym, ap, subst, ◌∙◌}
use mathlib.Core.List.{List, ◌∷◌}
use mathlib.Core.Logic.{◌↔◌}
use Prim.Native.Nat.{ℕ}
use native.Mathlib.Omega.{arith}
use lib.ListN.{get_or, take, drop}
use lib.Seq.{take_at, length-take-le}
use Rattle.refusal.specs.declared.Refusal.{Refusal}
use Rattle.codec.specs.Bytes.{Bytes}
use Rattle.machine.specs.declared.Verdict.{Verdict}
use Rattle.machine.specs.Replies.{verdict_number}
use Rattle.simulator.specs.Answers.{Judged}
use Rattle.simulator.specs.Replies.{of_judged}
use Rattle.builder.specs.declared.Matching.{Matching}
use Rattle.builder.specs.declared.Matching.TheVariants.{Whole}
use Rattle.builder.specs.Answers.{Built}
use Rattle.builder.specs.Replies.{of_built}
use Rattle.syntax.specs.Reading.{Grammar, ReadSays}
use Rattle.syntax.proofs.ReadingExact.{unambiguous}
use Rattle.reader.specs.declared.GrammarBytes.{GrammarBytes}
use Rattle.reader.specs.Calls.{ReadTells}
use Rattle.grammar_judge.specs.Calls.{Lent}
use Rattle.grammar_judge.specs.TwoCalls.{AsParsed}
use Rattle.typed.specs.Calls.{BuildTextSays, read, JudgeTextSays, refused, judged}
use Rattle.typed.specs.Replies.{of_read, grammar_left}
use Rattle.typed.specs.TypedCalls.{TextSays}
use Rattle.typed.proofs.ReadRight.{not_both, lines_read, lines_right, grammar_read, text_refused, text_number, read_determined as one_answer}
use Rattle.typed.proofs.TypedJudged.{typed_as, parsed_as}
use Rattle.sejimakpu.specs.Cells.{cells, ReplyWritten}
use Rattle.sejimakpu.specs.Calls.{BuildTells, ReadGrammarTells}
use Rattle.promises.specs.Typed.{ReadDetermined, ReadRight}
use Rattle.promises.specs.Calls.{TypedTold, BuiltTextTold, TextTold}
use Rattle.promises.proofs.MatchingTold.{built_there, refused_says, verdict_parsed, told_by, told_parsed}

pub read_right : ReadRight
read_right text r t =
    let l = lines_read (grammar_read text r t).says in
    (l.first ∷ l.rest, l.legal, lines_right l)

pub read_determined : ReadDetermined
read_determined text r s t u =
    (one_answer text r s t u, λ f e gs read. not_both text gs f (text_refused text f (subst (λ (a : Result GrammarBytes Refusal). ReadTells text a) e t)) read)

-- WHAT A TEXT SAYS is what parsing says of the grammar that was read
text_says : {how : Matching} {text gs cs : List ℕ} {v : Verdict} → ReadSays text (Grammar gs) → AsParsed how gs cs v → TextSays how text cs v
text_says {how} {cs = cs} {v} s p =
    let l = lines_read s in
    record { first = l.first; rest = l.rest; legal = l.legal; meant = typed_as (lines_right l) cs how v p }

text_parsed : {how : Matching} {text gs cs : List ℕ} {v : Verdict} → ReadSays text (Grammar gs) → TextSays how text cs v → AsParsed how gs cs v
text_parsed {how} {cs = cs} {v} s t =
    let l = lines_read s in
    let same : t.first ∷ t.rest ≡ l.first ∷ l.rest = unambiguous _ _ _ _ t.legal.reads l.legal.reads in
    let first : t.first ≡ l.first = cc in
    let rest : t.rest ≡ l.rest = cc in
    parsed_as (lines_right l) cs how v (rw (sym first, sym rest) t.meant)

by_text :
    {how : Matching} {text gs cs : List ℕ} {v : Verdict} {A B : Type 0} → ReadSays text (Grammar gs) → A ↔ (B × AsParsed how gs cs v) →
    A ↔ (B × TextSays how text cs v)
by_text s exact =
    (λ a. let (b, p) = exact.0 a in (b, text_says s p), λ (b, t). exact.1 (b, text_parsed s t))

-- A CALL OF READING THAT RETURNS 0 has read the grammar, and counts its bytes
read_there :
    {text grammar grammar_now answer : List ℕ} → ReadGrammarTells text grammar grammar_now 0 answer →
    ReadSays text (Grammar (take (get_or answer 2 0) grammar_now))
unfolding of_read cells
read_there {text} {grammar} {grammar_now} {answer} t = go t.read t.says t.left t.tells
  where
    go :
        (r : Result GrammarBytes Refusal) → ReadTells text r → grammar_now ≡ grammar_left r grammar → ReplyWritten (of_read r) 0 answer →
        ReadSays text (Grammar (take (get_or answer 2 0) grammar_now))
    go (Err f) says left w = absurd (omega (arith, text_number (text_refused text f says), w.number))
    go (Ok g) says left w =
        let there = grammar_read text g says in
        let long : get_or answer 2 0 ≡ g.length = ap (λ (l : List ℕ). get_or l 2 0) w.written in
        let front : take (get_or answer 2 0) grammar_now ≡ take g.length g.bytes =
        ap (λ (n : ℕ). take n grammar_now) long ∙ ap (take g.length) left
        ∙ take_at (take g.length g.bytes) (drop g.length grammar) g.length (length-take-le g.length g.bytes there.fits)
        in
        rw front there.says

pub typed_told : TypedTold
typed_told how text grammar grammar_now image image_now capture notes notes_now work work_now returned answered counted answer v bytes reads builds judges =
    by_text (read_there reads) (told_parsed v bytes (built_there builds) judges)

-- BUILDING FROM A TEXT that returns 0 has read it, and has built the image of its grammar
record TextBuilt (text image image_now : List ℕ) (counted : List ℕ) : Type 0 where
  grammar : List ℕ
  reads : ReadSays text (Grammar grammar)
  builds : BuildTells Whole grammar image image_now 0 counted

text_built :
    {text image image_now counted : List ℕ} {r : Built} → BuildTextSays text r image image_now → ReplyWritten (of_built r) 0 counted →
    TextBuilt text image image_now counted
unfolding of_built
text_built (BuildTextSays.unread s) w = absurd (omega (arith, text_number s, w.number))
text_built {r = r} (read {gs = gs} s b) w = record { grammar = gs; reads = s; builds = record { built = r; says = b; tells = w } }

pub built_text_told : BuiltTextTold
built_text_told text image image_now capture notes notes_now work work_now returned counted answer v bytes t judges =
    let b = text_built t.says t.tells in
    by_text b.reads (told_parsed v bytes (built_there b.builds) judges)

-- JUDGING BY A TEXT
text_verdict :
    {text cs : List ℕ} {r : Judged} {x y : Lent} (v : Verdict) → Bytes cs → JudgeTextSays text cs r x y →
    ((of_judged r).verdict ≡ verdict_number v) ↔ (((of_judged r).refusal ≡ 0) × TextSays Whole text cs v)
unfolding of_judged
text_verdict v bytes (JudgeTextSays.unread s) = refused_says v (λ z. omega (arith, text_number s, z))
text_verdict v bytes (refused s h) = refused_says v h
text_verdict {cs = cs} {r} {x} {y} v bytes (judged {gs = gs} s fine image judges) =
    let good = (lines_right (lines_read s)).good in
    by_text s (verdict_parsed Whole gs cs x.notes y.notes x.work y.work r v good bytes judges)

pub text_told : TextTold
text_told text capture x y returned answer v bytes t = told_by t.tells (text_verdict v bytes t.says)
