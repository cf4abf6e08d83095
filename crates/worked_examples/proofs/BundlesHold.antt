-- The examples of bundles and reports, computed. Assumes nothing.
use mathlib.Core.Path.{◌≡◌, refl}
use mathlib.Core.List.{[], ◌∷◌}
use Rattle.codec.specs.Numbers.{number_at, little_endian, pair_bytes}
use Rattle.machine.specs.Replies.{verdict_number}
use Rattle.bundle.specs.Format.{count, pair_place, offset, long, end, capture, pairs_from, bundle_refusal}
use Rattle.bundle.specs.Report.{sum, gives, is_refused, line_readings, totals}
use Rattle.bundle.specs.Alone.{written_over}
use Rattle.worked_examples.specs.Examples.{Each, nil, cons}
use Rattle.worked_examples.specs.BundleExamples.{two_in_abc, good_bundle, RefusedSo, bundle_table, five_lines}

pub bundle_examples : Each RefusedSo bundle_table
unfolding RefusedSo bundle_table two_in_abc number_at little_endian pair_bytes
    count pair_place offset long end pairs_from bundle_refusal
bundle_examples = cons refl (cons refl (cons refl (cons refl (cons refl (cons refl (cons refl (cons refl (cons refl nil))))))))

pub capture_example : capture good_bundle 1 ≡ 98 ∷ 99 ∷ []
unfolding two_in_abc number_at little_endian pair_bytes pair_place offset long capture
capture_example = refl

pub totals_example :
    totals five_lines ≡ record { accepted = 2; ended = 0; stuck = 1; looping = 0; halted = 1; refused = 1; readings = 8589934595 }
unfolding five_lines totals sum gives is_refused line_readings verdict_number
totals_example = refl

pub cells_example : written_over ((5 ∷ 6 ∷ 7 ∷ []) ∷ [] ∷ (8 ∷ []) ∷ []) (1 ∷ 2 ∷ 3 ∷ 4 ∷ []) ≡ 8 ∷ 6 ∷ 7 ∷ 4 ∷ []
unfolding written_over
cells_example = refl
