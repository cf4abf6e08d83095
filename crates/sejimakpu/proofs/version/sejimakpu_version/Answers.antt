-- `sejimakpu::version::sejimakpu_version` meets its contract: the number is that of the version defined. Assumes nothing.
use mathlib.Core.Path.{refl}
use Rattle.sejimakpu.specs.Version.{version_number, major, minor, patch}
use Rattle.sejimakpu.proofs.version.sejimakpu_version.Goals as goal

pub returns : goal.returns
unfolding version_number major minor patch
returns c = refl
