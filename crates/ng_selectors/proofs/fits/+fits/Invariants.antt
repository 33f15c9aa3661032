use Rattle.std.proofs.Common.{◌≡◌, drop}
use Rattle.std.specs.List.{list_all}
use Rattle.ng_selectors.specs.Fits.{part_fits}
use Rattle.ng_selectors.proofs.fits.+fits.Given as goal

abbrev pub invariant-parts_fit-loop-part : goal.invariant-parts_fit-loop-part
invariant-parts_fit-loop-part l = list_all (part_fits l.tag l.attrs) l.parts ≡ list_all (part_fits l.tag l.attrs) (drop l.part-index l.parts)
