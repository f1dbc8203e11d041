use Rattle.std.proofs.lemmas.List.Sorted.{IsPermutation-put_mid}
use Rattle.hh_calc.proofs.credits.put_last_in_place.Goals as goal

pub returns : goal.returns
returns c = IsPermutation-put_mid _ _ _ _ c.rotate_right.ensures.permutation
