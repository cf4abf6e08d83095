-- The library's version, and the one number that tells it. Assumes nothing: these are definitions.
use Rattle.std.specs.Prelude.{ℕ, ◌+◌, ◌*◌}

unfoldable pub major : ℕ
major = 0

unfoldable pub minor : ℕ
minor = 1

unfoldable pub patch : ℕ
patch = 0

-- three digits each for the minor number and the patch, so that a later version has a larger number
unfoldable pub version_number : ℕ
version_number = 1000000 * major + 1000 * minor + patch
