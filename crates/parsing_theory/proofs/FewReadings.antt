-- Few configurations are entered by a grammar's machine: a numbering of them, the start 0, then those at the bottom of the stack, one by a whole match and one a head by a leading one, then those of the box. Assumes nothing.
use mathlib.Core.Path.{◌≡◌, refl, sym, ap, subst, ◌∙◌}
use mathlib.Core.List.{List, [], Memᴰ}
use mathlib.Core.Option.{some}
use Prim.Native.Nat.{ℕ, zero, suc, ◌+◌, ◌*◌, ◌-◌, ◌/◌, ◌%◌, ◌<◌, ◌≤◌}
use native.Mathlib.Nat.{mul_assoc, mul_comm, mul_left_comm}
use native.Mathlib.Numerals.{add-one}
use native.Mathlib.Omega.{arith}
use lib.ListN.{length}
use Rattle.machine.specs.declared.Config.{Config}
use Rattle.machine.specs.Run.{Machine, ValidConfig, start, after, config, how_many}
use Rattle.machine.specs.Verdicts.{over_base, Noted, nonzero, AllEntered}
use Rattle.machine.proofs.Runs.{Terminated}
use Rattle.machine.proofs.Digits.{digits_below, low_digit, middle_digit, high_digit}
use Rattle.machine.proofs.Listing.{all_entered}
use Rattle.grammar.specs.Parsing.{Rules}
use Rattle.builder.specs.declared.Matching.{Matching}
use Rattle.builder.specs.declared.Matching.TheVariants.{Whole, Leading}
use Rattle.builder.specs.Table.{state_start, state_ok, state_count}
use Rattle.parsing_theory.proofs.Table.{Table, ChoiceRow}
use Rattle.parsing_theory.proofs.Leads.{InBox, AtBottom, AtLast, terminates, passes_byte, bottom_goes}
use Rattle.parsing_theory.proofs.Entered.{Shape, the_start, in_box, at_bottom, entered_shape, last_same, bottoms_same, config_same}
use Rattle.machine.proofs.Pigeonhole.{pigeonhole}

-- a number by three digits has no others
digits_same :
    (m g : ℕ) {p i a q j b : ℕ} → i < m → j < m → a < g → b < g → (p * m + i) * g + a ≡ (q * m + j) * g + b →
    (p ≡ q) × (i ≡ j) × (a ≡ b)
digits_same m g {p} {i} {a} {q} {j} {b} hi hj ha hb e = (
  sym (high_digit p hi ha) ∙ ap (λ (x : ℕ). x / g / m) e ∙ high_digit q hj hb,
  sym (middle_digit p hi ha) ∙ ap (λ (x : ℕ). x / g % m) e ∙ middle_digit q hj hb,
  sym (low_digit p i m ha) ∙ ap (λ (x : ℕ). x % g) e ∙ low_digit q j m hb,
)

-- a configuration's place in the box, and the numbering of all that can be entered
box_number : (m n : ℕ) → Config → ℕ
box_number m n c = ((c.state - 1) * suc n + (c.head - 1)) * (2 * m) + (c.symbol - 1)

-- how many the bottom may have, and the number of one among them
abbrev pub bottoms : Matching → (n : ℕ) → ℕ
bottoms Whole n = 1
bottoms Leading n = suc n

bottom_number : Matching → (head : ℕ) → ℕ
bottom_number Whole h = 0
bottom_number Leading h = h - 1

entered_number_by : (bottoms bottom box state symbol : ℕ) → ℕ
entered_number_by n b k zero zero = 0
entered_number_by n b k (suc p) zero = 1 + b
entered_number_by n b k p (suc a) = 1 + n + k

entered_number : Matching → (m n : ℕ) → Config → ℕ
entered_number how m n c = entered_number_by (bottoms how n) (bottom_number how c.head) (box_number m n c) c.state c.symbol

box_size : (m n : ℕ) → 3 * suc n * (2 * m) ≡ 6 * m * (n + 1)
box_size m n =
    rw add-one
    (omega (arith, mul_assoc 3 (suc n) (2 * m), mul_left_comm (suc n) 2 m, mul_comm (suc n) m, mul_assoc 6 m (suc n)))

module _ (how : Matching) (m n : ℕ) where
  start_number : {c : Config} → c ≡ config state_start 0 0 → entered_number how m n c ≡ 0
  unfolding entered_number entered_number_by
  start_number e = ap (entered_number how m n) e

  on_bottom_number : {c : Config} → AtBottom n c → entered_number how m n c ≡ 1 + bottom_number how c.head
  unfolding entered_number entered_number_by
  on_bottom_number {c} b = go c.state c.symbol b.state_least b.symbol_is
    where
      go :
          (p a : ℕ) → state_ok ≤ p → a ≡ 0 →
          entered_number_by (bottoms how n) (bottom_number how c.head) (box_number m n c) p a ≡ 1 + bottom_number how c.head
      go zero a l e = absurd (omega arith)
      go (suc p) zero l e = refl
      go (suc p) (suc a) l e = absurd (omega arith)

  in_box_number : {c : Config} → InBox m n c → entered_number how m n c ≡ 1 + bottoms how n + box_number m n c
  unfolding entered_number entered_number_by
  in_box_number {c} b = go c.state c.symbol b.symbol_least
    where
      go :
          (p a : ℕ) → 0 < a →
          entered_number_by (bottoms how n) (bottom_number how c.head) (box_number m n c) p a ≡ 1 + bottoms how n + box_number m n c
      go p zero l = absurd (omega arith)
      go p (suc a) l = refl

  bottom_number_below : {c : Config} → AtBottom n c → bottom_number how c.head < bottoms how n
  unfolding bottom_number
  bottom_number_below {c} b = go how
    where
      go : (w : Matching) → bottom_number w c.head < bottoms w n
      go Whole = omega arith
      go Leading = omega (arith, b.head_least, b.head_most)

  box_number_below : {c : Config} → InBox m n c → box_number m n c < 6 * m * (n + 1)
  unfolding box_number
  box_number_below {c} b = rw (box_size m n) at below
    where
      below : ((c.state - 1) * suc n + (c.head - 1)) * (2 * m) + (c.symbol - 1) < 3 * suc n * (2 * m)
      below = digits_below (omega arith) (omega arith) (omega arith)

  box_number_same : (c d : Config) → InBox m n c → InBox m n d → box_number m n c ≡ box_number m n d → c ≡ d
  unfolding box_number
  box_number_same c d b f e =
      let (states, heads, symbols) =
      digits_same (suc n) (2 * m) {p = c.state - 1} {i = c.head - 1} {a = c.symbol - 1} {q = d.state - 1} {j = d.head - 1} {b = d.symbol - 1}
      (omega arith) (omega arith) (omega arith) (omega arith) e in
      config_same c d (omega arith) (omega arith) (omega arith)

  number_below : (M : Machine) (c : Config) → Shape M m n c → entered_number how m n c < 6 * m * (n + 1) + (1 + bottoms how n)
  number_below M c (the_start e) = omega (arith, start_number e)
  number_below M c (in_box b) = omega (arith, in_box_number b, box_number_below b)
  number_below M c (at_bottom b k j e) = omega (arith, on_bottom_number b, bottom_number_below b)

-- TWO OF ONE NUMBER ARE ONE
module _ {M : Machine} {E : Rules} {m : ℕ} {cs : List ℕ} (table : Table M E m cs) where
  abbrev n : ℕ
  n = length cs

  -- by a whole match the run terminates at the bottom, in one place; by a leading one there is one a head
  bottom_one :
      {how : Matching} → ChoiceRow how M cs → {c d : Config} (k l : ℕ) {i j : ℕ} → AtBottom n c → after k M start ≡ some (over_base c i []) →
      AtBottom n d → after l M start ≡ some (over_base d j []) → bottom_number how c.head ≡ bottom_number how d.head → c ≡ d
  unfolding bottom_number
  bottom_one {how = Whole} choice {c} {d} k l {i} {j} b e bd f same = last_same M k l e (stops c i b) f (stops d j bd)
    where
      stops : (c : Config) (i : ℕ) → AtBottom n c → Terminated M (over_base c i [])
      stops c i b = go (bottom_goes table choice c b i)
        where
          go : AtLast Whole M n c i → Terminated M (over_base c i [])
          go (terminates h) = h
          go (passes_byte is ok most goes) = absurd (let z : ◌≡◌ {A = ℕ} 0 1 = cc in omega arith)
  bottom_one {how = Leading} choice k l b e bd f same =
      bottoms_same table choice k l b e bd f (omega (arith, b.head_least, bd.head_least))

  module _ {how : Matching} (choice : ChoiceRow how M cs) where
    number_same : (c d : Config) → Shape M m n c → Shape M m n d → entered_number how m n c ≡ entered_number how m n d → c ≡ d
    number_same c d (the_start p) (the_start q) e = p ∙ sym q
    number_same c d (the_start p) (in_box b) e = absurd (omega (arith, start_number how m n p, in_box_number how m n b))
    number_same c d (the_start p) (at_bottom b k j q) e = absurd (omega (arith, start_number how m n p, on_bottom_number how m n b))
    number_same c d (in_box b) (the_start q) e = absurd (omega (arith, in_box_number how m n b, start_number how m n q))
    number_same c d (in_box b) (in_box f) e =
        box_number_same how m n c d b f (omega (arith, in_box_number how m n b, in_box_number how m n f))
    number_same c d (in_box b) (at_bottom f k j q) e =
        absurd (omega (arith, in_box_number how m n b, on_bottom_number how m n f, bottom_number_below how m n f))
    number_same c d (at_bottom b k j p) (the_start q) e = absurd (omega (arith, on_bottom_number how m n b, start_number how m n q))
    number_same c d (at_bottom b k j p) (in_box f) e =
        absurd (omega (arith, on_bottom_number how m n b, bottom_number_below how m n b, in_box_number how m n f))
    number_same c d (at_bottom b k i p) (at_bottom f l j q) e =
        bottom_one choice k l b p f q (omega (arith, on_bottom_number how m n b, on_bottom_number how m n f))

-- what is entered is the machine's own
shape_there : {M : Machine} {E : Rules} {m : ℕ} {cs : List ℕ} → Table M E m cs → (c : Config) → Shape M m (length cs) c → ValidConfig M c
shape_there {M} {m = m} {cs = cs} table c shape =
    let states = table.states_are in
    let places = table.places_are in
    let symbols = table.symbols_are in
    go shape (omega arith) (omega arith) (omega arith)
  where
    go : Shape M m (length cs) c → state_count ≤ M.states → length cs + 2 ≤ M.places → suc (2 * m) ≤ M.symbols → ValidConfig M c
    go (the_start e) p i a =
        subst (ValidConfig M) (sym e) (record { state_below = omega arith; head_below = omega arith; symbol_below = omega arith })
    go (in_box b) p i a = record { state_below = omega arith; head_below = omega arith; symbol_below = omega arith }
    go (at_bottom b k j e) p i a = record { state_below = omega arith; head_below = omega arith; symbol_below = omega arith }

-- THE COUNT of configurations entered
pub few_readings_of :
    {how : Matching} {M : Machine} {E : Rules} {m : ℕ} {cs : List ℕ} → Table M E m cs → ChoiceRow how M cs → (notes : List ℕ) → Noted M notes →
    nonzero (how_many M) notes ≤ 6 * m * (length cs + 1) + (1 + bottoms how (length cs))
few_readings_of {how} {M} {E} {m} {cs} table choice notes noted =
    go (all_entered M notes noted (λ c e. shape_there table c (entered_shape table choice c e)))
  where
    go : AllEntered M (nonzero (how_many M) notes) → nonzero (how_many M) notes ≤ 6 * m * (length cs + 1) + (1 + bottoms how (length cs))
    go listing =
        let shape : (c : Config) → Memᴰ c listing.configs → Shape M m (length cs) c =
        λ c a. entered_shape table choice c (listing.only c a) in
        let most : length listing.configs ≤ 6 * m * (length cs + 1) + (1 + bottoms how (length cs)) =
        pigeonhole (entered_number how m (length cs)) (6 * m * (length cs + 1) + (1 + bottoms how (length cs))) listing.configs listing.distinct
        (λ c a. number_below how m (length cs) M c (shape c a)) (λ c d a b. number_same table choice c d (shape c a) (shape d b)) in
        omega (arith, listing.counted)
