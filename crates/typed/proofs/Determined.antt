-- The calls on a text: what they refuse, that their answers follow from the text and what was lent, and that earlier contents don't matter. Assumes nothing.
use Rattle.std.specs.Prelude.{Err}
use mathlib.Core.Path.{◌≡◌, refl, sym, ap, subst, ◌∙◌}
use mathlib.Core.List.{List, ◌++◌}
use Prim.Native.Nat.{ℕ}
use lib.ListN.{length, take, drop}
use Rattle.refusal.specs.declared.Refusal.{Refusal}
use Rattle.simulator.specs.Answers.{Judged}
use Rattle.simulator.specs.Calls.{JudgeSays}
use Rattle.builder.specs.Answers.{Built}
use Rattle.builder.specs.declared.Matching.TheVariants.{Whole}
use Rattle.builder.specs.Image.{built, built_length}
use Rattle.builder.specs.Calls.{build_refusal, BuildSays}
use Rattle.builder.proofs.Answered.{build_determined, build_independent, build_refused}
use Rattle.syntax.specs.Reading.{Refused, Grammar, ReadSays}
use Rattle.grammar_judge.specs.Calls as by
use Rattle.grammar_judge.specs.Calls.{Lent, lent_refusal, SameRoom, SameCells, JudgesBy}
use Rattle.grammar_judge.proofs.Refusing.{parts_fine}
use Rattle.grammar_judge.proofs.Determined.{judged_determined, judged_independent}
use Rattle.typed.specs.Calls.{BuildTextSays, JudgeTextSays, unread, read, refused, judged, BuildTextRefused, JudgeTextRefused, text_refused, room_refused, lent_refused}
use Rattle.typed.proofs.ReadRight.{one_grammar, one_refusal, not_both}

-- what judging by the grammar that was read says is what judging by the text says
pub judged_by : {text gs cs : List ℕ} {r : Judged} {x y : Lent} → ReadSays text (Grammar gs) → JudgesBy gs cs r x y → JudgeTextSays text cs r x y
judged_by t (by.refused h) = refused t h
judged_by t (by.judged z b) = judged t z b.image_now b.judges

-- BUILDING, where the text is refused and where it is read
module _ {text : List ℕ} where
  build_unread :
      {r : Built} {a x : List ℕ} (f : Refusal) → ReadSays text (Refused f) → BuildTextSays text r a x → (r ≡ Err f) × (x ≡ a)
  build_unread f s (unread t) = (ap Err (one_refusal text _ f t s), refl)
  build_unread f s (read t b) = absurd (not_both text _ f s t)

  build_read : {r : Built} {a x : List ℕ} (gs : List ℕ) → ReadSays text (Grammar gs) → BuildTextSays text r a x → BuildSays Whole gs r a x
  build_read gs s (unread t) = absurd (not_both text gs _ t s)
  build_read {r} {a} {x} gs s (read t b) = subst (λ (hs : List ℕ). BuildSays Whole hs r a x) (one_grammar text _ gs t s) b

pub build_text_determined :
    (text a : List ℕ) (r s : Built) (x y : List ℕ) → BuildTextSays text r a x → BuildTextSays text s a y → (r ≡ s) × (x ≡ y)
build_text_determined text a r s x y p (unread {f = f} t) = build_unread f t p
build_text_determined text a r s x y p (read {gs = gs} t b) = build_determined Whole gs a r s x y (build_read gs t p) b

pub build_text_refused :
    (text : List ℕ) (r : Built) (a x : List ℕ) (f : Refusal) → BuildTextSays text r a x → BuildTextRefused text (length a) f →
    (r ≡ Err f) × (x ≡ a)
build_text_refused text r a x f p (text_refused t) = build_unread f t p
build_text_refused text r a x f p (room_refused {gs = gs} t h) = build_refused Whole gs r a x h (build_read gs t p)

-- the same answer and image, whatever stood in the buffer
build_answer :
    {text : List ℕ} {r s : Built} {a b x y : List ℕ} → length a ≡ length b → BuildTextSays text r a x → BuildTextSays text s b y → r ≡ s
build_answer l p (unread {f = f} t) = (build_unread f t p).0
build_answer {r = r} {s = s} {a = a} {b = b} {x = x} {y = y} l p (read {gs = gs} t q) =
    (build_independent Whole gs r s a b x y l (build_read gs t p) q).0

pub build_text_independent :
    (text : List ℕ) (r s : Built) (a b x y : List ℕ) → length a ≡ length b → BuildTextSays text r a x → BuildTextSays text s b y →
    (r ≡ s)
    × ((gs : List ℕ) → ReadSays text (Grammar gs) → (build_refusal gs (length a)).number ≡ 0 → take (built_length gs) x ≡ take (built_length gs) y)
build_text_independent text r s a b x y l p q =
    (build_answer l p q, λ gs t. (build_independent Whole gs r s a b x y l (build_read gs t p) (build_read gs t q)).1)

-- JUDGING
judge_unread :
    {text cs : List ℕ} {r : Judged} {x y : Lent} (f : Refusal) → ReadSays text (Refused f) → JudgeTextSays text cs r x y →
    (r ≡ Err f) × (y ≡ x)
judge_unread {text} f s (unread t) = (ap Err (one_refusal text _ f t s), refl)
judge_unread {text} f s (refused t h) = absurd (not_both text _ f s t)
judge_unread {text} f s (judged t z m j) = absurd (not_both text _ f s t)

-- by the grammar that was read: nothing refused, or something
pub record GrammarJudged (gs cs : List ℕ) (r : Judged) (x y : Lent) : Type 0 where
  pub unrefused : (lent_refusal gs cs x).number ≡ 0
  pub image_now : y.image ≡ built Whole gs ++ drop (built_length gs) x.image
  pub judges : JudgeSays (built Whole gs) cs r x.notes y.notes x.work y.work

data Judging (gs cs : List ℕ) (r : Judged) (x y : Lent) : Type 0 where
  stopped : ((lent_refusal gs cs x).number ≡ 0 → ⊥) → r ≡ Err (lent_refusal gs cs x) → y ≡ x → Judging gs cs r x y
  answered : GrammarJudged gs cs r x y → Judging gs cs r x y

judging : {text cs : List ℕ} {r : Judged} {x y : Lent} (gs : List ℕ) → ReadSays text (Grammar gs) → JudgeTextSays text cs r x y → Judging gs cs r x y
judging {text} gs s (unread t) = absurd (not_both text gs _ t s)
judging {text} {cs} gs s (refused {gs = hs} {x = x} t h) =
    subst (λ (ks : List ℕ). Judging ks cs (Err (lent_refusal hs cs x)) x x) (one_grammar text hs gs t s) (stopped h refl refl)
judging {text} {cs} {r} {x} {y} gs s (judged t z m j) =
    subst (λ (hs : List ℕ). Judging hs cs r x y) (one_grammar text _ gs t s) (answered (record { unrefused = z; image_now = m; judges = j }))

pub judge_read :
    {text cs : List ℕ} {r : Judged} {x y : Lent} (gs : List ℕ) → ReadSays text (Grammar gs) → (lent_refusal gs cs x).number ≡ 0 →
    JudgeTextSays text cs r x y → GrammarJudged gs cs r x y
judge_read {cs = cs} {r = r} {x = x} {y = y} gs s z p = go (judging gs s p)
  where
    go : Judging gs cs r x y → GrammarJudged gs cs r x y
    go (stopped h e k) = absurd (h z)
    go (answered g) = g

judge_stopped :
    {text cs : List ℕ} {r : Judged} {x y : Lent} (gs : List ℕ) → ReadSays text (Grammar gs) → ((lent_refusal gs cs x).number ≡ 0 → ⊥) →
    JudgeTextSays text cs r x y → (r ≡ Err (lent_refusal gs cs x)) × (y ≡ x)
judge_stopped {cs = cs} {r = r} {x = x} {y = y} gs s h p = go (judging gs s p)
  where
    go : Judging gs cs r x y → (r ≡ Err (lent_refusal gs cs x)) × (y ≡ x)
    go (stopped k e q) = (e, q)
    go (answered g) = absurd (h g.unrefused)

pub judge_text_refused :
    (text cs : List ℕ) (r : Judged) (x y : Lent) (f : Refusal) → JudgeTextSays text cs r x y → JudgeTextRefused text cs x f →
    (r ≡ Err f) × (y ≡ x)
judge_text_refused text cs r x y f p (text_refused t) = judge_unread f t p
judge_text_refused text cs r x y f p (lent_refused {gs = gs} t h) = judge_stopped gs t h p

pub judge_text_determined :
    (text cs : List ℕ) (x : Lent) (r s : Judged) (y z : Lent) → JudgeTextSays text cs r x y → JudgeTextSays text cs s x z → (r ≡ s) × (y ≡ z)
judge_text_determined text cs x r s y z p (unread {f = f} t) = judge_unread f t p
judge_text_determined text cs x r s y z p (refused {gs = gs} t h) = judge_stopped gs t h p
judge_text_determined text cs x r s y z p (judged {gs = gs} t n m j) =
    let g = judge_read gs t n p in
    judged_determined gs cs x y z r s g.image_now m g.judges j

-- EARLIER CONTENTS DON'T MATTER
module _ (gs cs : List ℕ) {x z : Lent} (room : SameRoom x z) where
  same_refusal : lent_refusal gs cs x ≡ lent_refusal gs cs z
  same_refusal = rw (room.image, room.notes, room.work)

  same_number : (lent_refusal gs cs x).number ≡ (lent_refusal gs cs z).number
  same_number = ap (λ (f : Refusal). f.number) same_refusal

  -- by the grammar that was read, and nothing refused
  both_judged :
      {text : List ℕ} {y w : Lent} {r s : Judged} → ReadSays text (Grammar gs) → (lent_refusal gs cs x).number ≡ 0 → JudgeTextSays text cs r x y →
      JudgeTextSays text cs s z w → (r ≡ s) × SameCells gs cs y w
  both_judged {y = y} {w = w} {r = r} {s = s} t n p q =
      let g = judge_read gs t n p in
      let k = judge_read gs t (sym same_number ∙ n) q in
      let (same, left) = judged_independent gs cs x y z w room r s g.image_now k.image_now g.judges k.judges in
      (same, left (parts_fine gs cs _ _ _ n).1)

same_answer :
    {text cs : List ℕ} {x y z w : Lent} {r s : Judged} → SameRoom x z → JudgeTextSays text cs r x y → JudgeTextSays text cs s z w → r ≡ s
same_answer room p (unread {f = f} t) = (judge_unread f t p).0
same_answer {cs = cs} room p (refused {gs = gs} t h) =
    (judge_stopped gs t (λ n. h (sym (same_number gs cs room) ∙ n)) p).0 ∙ ap Err (same_refusal gs cs room)
same_answer {cs = cs} room p (judged {gs = gs} t n m j) = (both_judged gs cs room t (same_number gs cs room ∙ n) p (judged t n m j)).0

pub judge_text_independent :
    (text cs : List ℕ) (x y z w : Lent) (r s : Judged) → SameRoom x z → JudgeTextSays text cs r x y → JudgeTextSays text cs s z w →
    (r ≡ s) × ((gs : List ℕ) → ReadSays text (Grammar gs) → (lent_refusal gs cs x).number ≡ 0 → SameCells gs cs y w)
judge_text_independent text cs x y z w r s room p q = (same_answer room p q, λ gs t n. (both_judged gs cs room t n p q).1)
