-- Tokens are the lines of one grammar at most, and so reading a text has one answer. Assumes nothing.
use mathlib.Core.Path.{◌≡◌, refl, sym}
use mathlib.Core.List.{List, []}
use Prim.Native.Nat.{ℕ}
use native.Mathlib.Decide.{ℕ_discrete}
use Rattle.syntax.specs.Tokens.{Token}
use Rattle.syntax.specs.Trees.{Definition, Reads, last_line, more_lines, LegalText}
use Rattle.syntax.specs.Faults.{fault}
use Rattle.syntax.specs.Needs.{later_refusal}
use Rattle.syntax.specs.Compile.{grammar_of}
use Rattle.syntax.specs.Reading.{Reading, Refused, Grammar, ReadSays, at_fault, refused, read}
use Rattle.syntax.proofs.OneTree.{one_body}
use Rattle.syntax.proofs.FaultsRight.{faults_right, legal_faultless}

no_lines : {d : ℕ} {ds : List Definition} → Reads d [] ds → ⊥
no_lines r = elim r [ ]

-- ONE LIST OF LINES
one_reading : {d : ℕ} {ts : List Token} {ds es : List Definition} → Reads d ts ds → Reads d ts es → ds ≡ es
one_reading (last_line x) (last_line y) = let r = one_body x y in cc
one_reading (last_line x) (more_lines y q) = absurd (no_lines (rw (sym (one_body x y).rest) at q))
one_reading (more_lines x p) (last_line y) = absurd (no_lines (rw (one_body x y).rest at p))
one_reading (more_lines x p) (more_lines y q) =
    let r = one_body x y in
    let rest = one_reading p (rw (sym r.rest) at q) in
    cc

pub unambiguous : (d : ℕ) (ts : List Token) (ds es : List Definition) → Reads d ts ds → Reads d ts es → ds ≡ es
unambiguous d ts ds es p q = one_reading p q

-- ONE ANSWER
abbrev Exact : (text : List ℕ) → Type 0
Exact text = (r : Reading) × ReadSays text r × ((s : Reading) → ReadSays text s → s ≡ r)

at_fault_exact : (text : List ℕ) → ((fault text).number ≡ 0 → ⊥) → Exact text
at_fault_exact text h = (Refused (fault text), at_fault h, only)
  where
    only : (s : Reading) → ReadSays text s → s ≡ Refused (fault text)
    only s (at_fault k) = refl
    only s (refused l k) = absurd (h (legal_faultless text _ l))
    only s (read l k) = absurd (h (legal_faultless text _ l))

legal_exact : (text : List ℕ) (ds : List Definition) → LegalText text ds → Exact text
legal_exact text ds l = go (ℕ_discrete (later_refusal text ds).number 0)
  where
    same : (es : List Definition) → LegalText text es → es ≡ ds
    same es k = one_reading k.reads l.reads

    go : Dec ((later_refusal text ds).number ≡ 0) → Exact text
    go (no h) = (Refused (later_refusal text ds), refused l h, only)
      where
        only : (s : Reading) → ReadSays text s → s ≡ Refused (later_refusal text ds)
        only s (at_fault k) = absurd (k (legal_faultless text ds l))
        only s (refused {ds = es} k j) = rw (same es k)
        only s (read {ds = es} k j) = absurd (h (rw (same es k) at j))
    go (yes e) = (Grammar (grammar_of ds), read l e, only)
      where
        only : (s : Reading) → ReadSays text s → s ≡ Grammar (grammar_of ds)
        only s (at_fault k) = absurd (k (legal_faultless text ds l))
        only s (refused {ds = es} k j) = absurd (j (rw (same es k) e))
        only s (read {ds = es} k j) = rw (same es k)

pub reading_exact : (text : List ℕ) → (r : Reading) × ReadSays text r × ((s : Reading) → ReadSays text s → s ≡ r)
reading_exact text = go (ℕ_discrete (fault text).number 0)
  where
    go : Dec ((fault text).number ≡ 0) → Exact text
    go (no h) = at_fault_exact text h
    go (yes e) = let (ds, l) = (faults_right text).1.0 e in legal_exact text ds l
