-- What one more call adds to the bytes that were moved, and what writing bytes leaves. Assumes nothing.
use Rattle.std.proofs.Common.{◌≡◌, Bool, true, false, refl, length, ℕ, zero, suc, ◌+◌, ◌-◌, ◌≤◌, ◌<◌, List, ◌++◌, take, drop, None, Some, Ok, Err, sym, ap, subst, ◌∙◌, arith}
use Rattle.std.proofs.Math.Seq.{take-add, take-append-add, take-length}
use Rattle.std.proofs.lemmas.List.{take-append-le, take_all, length-append, length-drop, length-take-le}
use Rattle.std.proofs.KnownBytes.{Appends-kept, Appends-trans, Consumes-kept, Consumes-trans}
use Rattle.std.specs.Io.{ReadsAtMost}
use Rattle.std.specs.Io.KnownBytes.{Appends, Consumes, ReadConsumes, WriteAppends}
use Rattle.std.specs.declared.io.Error.{Error}
use Rattle.std.specs.declared.option.Option.{Option}
use Rattle.std.specs.declared.result.Result.{Result}
use Rattle.transfer.specs.Transfers.{Outcome, Stopped, WritesFront, with_moved}

-- between two calls: where the last one moved nothing, bytes are left
abbrev pub Going : Outcome → (count long : ℕ) → Type 0
Going None count long = count ≤ long
Going (Some (Ok zero)) count long = count < long
Going (Some (Ok (suc k))) count long = (suc k ≤ count) × (count ≤ long)
Going (Some (Err e)) count long = count < long

-- a loop stops within the bytes that it has
pub stops_within : (o : Outcome) (count long : ℕ) → Stopped o count long → count ≤ long
stops_within None count long s = omega (arith, s)
stops_within (Some (Ok zero)) count long s = omega (arith, s)
stops_within (Some (Ok (suc k))) count long s = omega (arith, s.1)
stops_within (Some (Err e)) count long s = omega (arith, s)

-- a buffer whose free part a read began to fill
filled : (count n : ℕ) (old got rest : List ℕ) → count ≤ length old → n ≤ length got → take (count + n) (take count old ++ (got ++ rest)) ≡ take count old ++ take n got
filled count n old got rest h fits =
    ap (λ k. take (k + n) (take count old ++ (got ++ rest))) (sym (length-take-le count old h))
    ∙ take-append-add (take count old) (got ++ rest) n
    ∙ ap (λ l. take count old ++ l) (take-append-le n got rest fits)

unfilled : (count : ℕ) (old rest : List ℕ) → count ≤ length old → take count (take count old ++ rest) ≡ take count old
unfilled count old rest h =
    let long = length-take-le count old h in
    take-append-le count (take count old) rest (omega (arith, long)) ∙ take_all count (take count old) (omega (arith, long))

-- the bytes that one more call moved stand behind those that were moved before
pub read_more :
    (r : Result ℕ Error) (count : ℕ) (old got rest : List ℕ) (a b c : Option (List ℕ)) → count ≤ length old → ReadsAtMost r got →
    Consumes a b (take count old) → ReadConsumes b c r got → Consumes a c (take (with_moved count r) (take count old ++ (got ++ rest)))
read_more (Ok n) count old got rest a b c h fits before m =
    subst (Consumes a c) (sym (filled count n old got rest h fits.0)) (Consumes-trans a b c _ _ before m.0)
read_more (Err e) count old got rest a b c h fits before m = subst (Consumes a c) (sym (unfilled count old _ h)) (Consumes-kept a b c _ before m)

pub write_more :
    (r : Result ℕ Error) (count : ℕ) (line : List ℕ) (a b c : Option (List ℕ)) →
    Appends a b (take count line) → WriteAppends b c r (take (length line - count) (drop count line)) → Appends a c (take (with_moved count r) line)
write_more (Ok n) count line a b c before m =
    let all : take (length line - count) (drop count line) ≡ drop count line = take_all _ _ (omega (arith, length-drop count line)) in
    subst (Appends a c) (sym (take-add count n line)) (Appends-trans a b c _ _ before (subst (λ l. Appends b c (take n l)) all m))
write_more (Err e) count line a b c before m = Appends-kept a b c _ before m

-- bytes written behind others that were written whole, and bytes before which a part of others was not written
pub written_then :
    (xs ys : List ℕ) (all : Bool) (a b c : Option (List ℕ)) → WritesFront xs true a b → WritesFront ys all b c → WritesFront (xs ++ ys) all a c
written_then xs ys all a b c p q =
    let first : take p.count xs ≡ xs = ap (λ n. take n xs) (p.whole refl) ∙ take-length xs in
    record {
      count = length xs + q.count;
      within = omega (arith, length-append xs ys, q.within);
      written = subst (λ l. Appends a c l) (sym (take-append-add xs ys q.count)) (Appends-trans a b c xs (take q.count ys) (subst (λ l. Appends a b l) first p.written) q.written);
      whole = λ t. omega (arith, q.whole t, length-append xs ys);
    }

pub written_cut : (xs ys : List ℕ) (all : Bool) (a b : Option (List ℕ)) → WritesFront xs all a b → WritesFront (xs ++ ys) false a b
written_cut xs ys all a b p =
    record {
      count = p.count;
      within = omega (arith, length-append xs ys, p.within);
      written = subst (λ l. Appends a b l) (sym (take-append-le p.count xs ys p.within)) p.written;
      whole = λ t. absurd cc;
    }
