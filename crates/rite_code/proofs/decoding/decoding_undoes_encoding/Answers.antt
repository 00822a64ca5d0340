use Rattle.rite_code.proofs.RoundTrip.{decode_encoded, length-encoding_narrow}
use Rattle.rite_code.proofs.decoding.decoding_undoes_encoding.Goals as goal

pub returns : goal.returns
returns c = record { decoded = decode_encoded; sizes = length-encoding_narrow }
