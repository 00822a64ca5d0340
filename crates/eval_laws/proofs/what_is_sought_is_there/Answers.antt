use Rattle.eval_laws.specs.Fits.{anything_since}
use Rattle.eval_laws.proofs.Reading.{local_found, set_found, own_found, exception_found, values_enough, block_found}
use Rattle.eval_laws.proofs.what_is_sought_is_there.Goals as goal

pub returns : goal.returns
returns c = record {
  local = λ s early n ks m x h. local_found s (anything_since early) n ks m x h;
  set = λ s early n ks m x e h. set_found s (anything_since early) n ks m x e h;
  own = λ s early n ks m x h. own_found s (anything_since early) n ks m x h;
  exception = λ s early n ks m h. exception_found s (anything_since early) n ks m h;
  operands = λ s early n action vs v ks m h. values_enough s (anything_since early) n action vs v ks m h;
  block = λ s early n ks m f h. block_found s (anything_since early) n ks m f h;
}
