-- The parts of the image's check, each by its condition: directory, counts, class map and rules. Each is right or has a first wrong place; right, the check passes it, and wrong, it refuses it at that place. Assumes nothing.
use mathlib.Core.Path.{◌≡◌, refl, sym, ap, ◌∙◌, subst}
use mathlib.Core.Bool.{◌&&◌}
use mathlib.Core.List.{List}
use Prim.Native.Nat.{ℕ, ◌+◌, ◌*◌, ◌-◌, ◌<◌, ◌≤◌}
use native.Mathlib.Omega.{arith}
use lib.Dec.{leb}
use lib.ListN.{length}
use Rattle.image.specs.Format
use Rattle.codec.specs.Bytes.{byte}
use Rattle.codec.specs.Numbers.{u32_at}
use Rattle.image.specs.Image.{states, classes, symbols, rule_from}
use Rattle.refusal.specs.First.{refusal, no_refusal}
use Rattle.image.specs.Refusals.{pair_is, directory, count_wrong, counts, map_from, rule_bad, index_class, rule_count, rules_refusal_from}
use Rattle.image.specs.Conditions.{PairRight, CountsPairRight, MapPairRight, RulesPairRight, DirectoryRight, CountRight, StatesRight, ClassesRight, SymbolsRight, FinalsRight, CountsRight, MapRight, RulesRight, FirstWrongPair, counts_pair_wrong, map_pair_wrong, rules_pair_wrong, FirstWrongCount, states_wrong, classes_wrong, symbols_wrong, zero_wrong, finals_wrong, FirstWrongClass, FirstBadRule}
use Rattle.refusal.proofs.Reflects.{Reflects, when_holds, when_fails, decided, restated, equal, at_most, both, Refuses, when_passed, when_refused, passing, refuses_as, if_so, over, reaching, any_of}
use Rattle.refusal.proofs.Searching.{Looked, all_have, lacking, look, Search, none_found, first_found}
use Rattle.image.proofs.Bits.{bits_test}
use Rattle.image.proofs.RuleRight.{rule_test, IndexRight, rules_by_index, rules_by_selection, first_bad, bad_index, bad_place, least_bad}

-- a part of the image: right, or wrong at a place first
pub data Part (Right : Type 0) (First-wrong : ℕ → Type 0) : Type 0 where
  part_right : Right → Part Right First-wrong
  part_wrong : (place : ℕ) → First-wrong place → Part Right First-wrong

module _ (bs : List ℕ) where
  -- DIRECTORY
  pair_test : (at offset long : ℕ) → Reflects (PairRight bs at offset long) (pair_is bs at offset long)
  unfolding pair_is
  pair_test a o l =
      restated (λ p. record { offset_is = p.0; length_is = p.1 }) (λ r. (r.offset_is, r.length_is)) (both (equal _ _) (equal _ _))

  rules_pair_test :
      Reflects (RulesPairRight bs)
      (leb Format.rules_offset (length bs) && pair_is bs Format.rules_pair Format.rules_offset (length bs - Format.rules_offset))
  rules_pair_test =
      restated (λ p. record { long_enough = p.0; pair = p.1 }) (λ r. (r.long_enough, r.pair))
      (both (at_most _ _) (pair_test Format.rules_pair _ _))

  pub directory_part : Part (DirectoryRight bs) (FirstWrongPair bs)
  directory_part = go (decided (pair_test Format.counts_pair _ _)) (decided (pair_test Format.map_pair _ _)) (decided rules_pair_test)
    where
      go :
          Dec (CountsPairRight bs) → Dec (MapPairRight bs) → Dec (RulesPairRight bs) → Part (DirectoryRight bs) (FirstWrongPair bs)
      go (no h) e f = part_wrong Format.counts_pair (counts_pair_wrong h)
      go (yes a) (no h) f = part_wrong Format.map_pair (map_pair_wrong a h)
      go (yes a) (yes b) (no h) = part_wrong Format.rules_pair (rules_pair_wrong a b h)
      go (yes a) (yes b) (yes c) = part_right (record { counts_pair = a; map_pair = b; rules_pair = c })

  pub directory_fine : DirectoryRight bs → directory bs ≡ no_refusal
  unfolding directory
  directory_fine d =
      simp
      (when_holds (pair_test Format.counts_pair _ _) d.counts_pair, when_holds (pair_test Format.map_pair _ _) d.map_pair, when_holds rules_pair_test d.rules_pair)

  pub directory_wrong : (o : ℕ) → FirstWrongPair bs o → directory bs ≡ refusal 2 o
  unfolding directory
  directory_wrong o (counts_pair_wrong h) = simp (when_fails (pair_test Format.counts_pair _ _) h)
  directory_wrong o (map_pair_wrong a h) = simp (when_holds (pair_test Format.counts_pair _ _) a, when_fails (pair_test Format.map_pair _ _) h)
  directory_wrong o (rules_pair_wrong a b h) =
      simp (when_holds (pair_test Format.counts_pair _ _) a, when_holds (pair_test Format.map_pair _ _) b, when_fails rules_pair_test h)

  -- COUNTS
  count_test : (count limit : ℕ) → Refuses (CountRight count limit) (count_wrong count limit)
  unfolding count_wrong
  count_test n m =
      refuses_as (λ p. record { least = omega (arith, p.0); most = p.1 }) (λ r. (λ e. omega (arith, r.least), r.most))
      (any_of (if_so (equal n 0)) (over m n))

  pub counts_part : Part (CountsRight bs) (FirstWrongCount bs)
  counts_part =
      go (passing (count_test (states bs) Format.max_states)) (passing (count_test (classes bs) Format.max_classes))
      (passing (count_test (symbols bs) Format.max_symbols)) (decided (equal (byte bs Format.zero_offset) 0)) (decided (bits_test (u32_at bs Format.finals_offset) (states bs)))
    where
      go :
          Dec (StatesRight bs) → Dec (ClassesRight bs) → Dec (SymbolsRight bs) → Dec (byte bs Format.zero_offset ≡ 0) → Dec (FinalsRight bs) →
          Part (CountsRight bs) (FirstWrongCount bs)
      go (no h) q r s t = part_wrong Format.states_offset (states_wrong h)
      go (yes a) (no h) r s t = part_wrong Format.classes_offset (classes_wrong a h)
      go (yes a) (yes b) (no h) s t = part_wrong Format.symbols_offset (symbols_wrong a b h)
      go (yes a) (yes b) (yes c) (no h) t = part_wrong Format.zero_offset (zero_wrong a b c h)
      go (yes a) (yes b) (yes c) (yes d) (no h) = part_wrong Format.finals_offset (finals_wrong a b c d h)
      go (yes a) (yes b) (yes c) (yes d) (yes e) =
          part_right (record { states_right = a; classes_right = b; symbols_right = c; zero_right = d; finals_right = e })

  pub counts_fine : CountsRight bs → counts bs ≡ no_refusal
  unfolding counts
  counts_fine c =
      simp (
        when_passed (count_test _ _) c.states_right,
        when_passed (count_test _ _) c.classes_right,
        when_passed (count_test _ _) c.symbols_right,
        when_holds (equal _ _) c.zero_right,
        when_holds (bits_test _ _) c.finals_right,
      )

  pub counts_wrong : (o : ℕ) → FirstWrongCount bs o → counts bs ≡ refusal 3 o
  unfolding counts
  counts_wrong o (states_wrong h) = simp (when_refused (count_test _ _) h)
  counts_wrong o (classes_wrong a h) = simp (when_passed (count_test _ _) a, when_refused (count_test _ _) h)
  counts_wrong o (symbols_wrong a b h) =
      simp (when_passed (count_test _ _) a, when_passed (count_test _ _) b, when_refused (count_test _ _) h)
  counts_wrong o (zero_wrong a b c h) =
      simp (
        when_passed (count_test _ _) a,
        when_passed (count_test _ _) b,
        when_passed (count_test _ _) c,
        when_fails (equal (byte bs Format.zero_offset) 0) h,
      )
  counts_wrong o (finals_wrong a b c d h) =
      simp (
        when_passed (count_test _ _) a,
        when_passed (count_test _ _) b,
        when_passed (count_test _ _) c,
        when_holds (equal (byte bs Format.zero_offset) 0) d,
        when_fails (bits_test _ _) h,
      )

  -- CLASS MAP
  pub map_part : Part (MapRight bs) (FirstWrongClass bs)
  map_part =
      go
      (look (λ (v : ℕ). byte bs (Format.map_offset + v) < classes bs)
      (λ v. passing (reaching (classes bs) (byte bs (Format.map_offset + v))))
      Format.map_length)
    where
      go :
          Looked (λ (v : ℕ). byte bs (Format.map_offset + v) < classes bs) Format.map_length →
          Part (MapRight bs) (FirstWrongClass bs)
      go (all_have f) = part_right f
      go (lacking v l) =
          part_wrong (Format.map_offset + v)
          (record { value = v; value_below = l.below; place_is = refl; wrong = omega (arith, l.lacks); before = l.before })

  -- the class at a place of the map, from its byte value
  at_place :
      (n : ℕ) → ((v : ℕ) → v < n → byte bs (Format.map_offset + v) < classes bs) → (i : ℕ) → Format.map_offset ≤ i →
      i < Format.map_offset + n → byte bs i < classes bs
  at_place n h i least most =
      let place : Format.map_offset + (i - Format.map_offset) ≡ i = omega arith in
      subst (λ (j : ℕ). byte bs j < classes bs) place (h (i - Format.map_offset) (omega arith))

  map_search : Search (λ (k i : ℕ). map_from k i bs) (refusal 5) (λ (i : ℕ). byte bs i < classes bs)
  unfolding map_from
  map_search =
      record {
        refuses = λ i. leb (classes bs) (byte bs i);
        tests = λ i. reaching (classes bs) (byte bs i);
        none_left = λ i. refl;
        one_more = λ k i. refl;
      }

  pub map_fine : MapRight bs → map_from Format.map_length Format.map_offset bs ≡ no_refusal
  map_fine h = none_found map_search Format.map_length Format.map_offset (at_place Format.map_length h)

  pub map_wrong : (o : ℕ) → FirstWrongClass bs o → map_from Format.map_length Format.map_offset bs ≡ refusal 5 o
  map_wrong o f =
      first_found map_search Format.map_length Format.map_offset o (omega (arith, f.place_is))
      (omega (arith, f.place_is, f.value_below))
      (λ h. omega (arith, f.wrong))
      (λ i least less. at_place f.value f.before i least (omega (arith, f.place_is)))

  -- RULES
  rules_search : Search (λ (k i : ℕ). rules_refusal_from k i bs) (λ (i : ℕ). refusal 6 (Format.rules_offset + Format.rule_length * i)) (IndexRight bs)
  unfolding rules_refusal_from
  rules_search =
      record {
        refuses = λ i. rule_bad bs (index_class bs i) (rule_from bs (Format.rules_offset + Format.rule_length * i));
        tests = λ i. rule_test bs (index_class bs i) (rule_from bs (Format.rules_offset + Format.rule_length * i));
        none_left = λ i. refl;
        one_more = λ k i. refl;
      }

  pub rules_part : Part (RulesRight bs) (FirstBadRule bs)
  rules_part = go (look (IndexRight bs) (λ i. passing (rules_search.tests i)) (rule_count bs))
    where
      go : Looked (IndexRight bs) (rule_count bs) → Part (RulesRight bs) (FirstBadRule bs)
      go (all_have f) = part_right (rules_by_selection bs f)
      go (lacking i l) = part_wrong (Format.rules_offset + Format.rule_length * i) (first_bad bs i l)

  pub rules_fine : RulesRight bs → rules_refusal_from (rule_count bs) 0 bs ≡ no_refusal
  rules_fine h = none_found rules_search (rule_count bs) 0 (λ i least most. rules_by_index bs h i (omega arith))

  pub rules_wrong : (o : ℕ) → FirstBadRule bs o → rules_refusal_from (rule_count bs) 0 bs ≡ refusal 6 o
  rules_wrong o f =
      let l = least_bad bs o f in
      first_found rules_search (rule_count bs) 0 (bad_index bs o f) (omega arith) (omega (arith, l.below)) l.lacks
      (λ i least less. l.before i less)
      ∙ ap (refusal 6) (sym (bad_place bs o f))
