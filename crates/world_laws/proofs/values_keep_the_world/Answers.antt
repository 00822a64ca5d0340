use Rattle.world_laws.specs.Anywhere.{anywhere}
use Rattle.world_laws.proofs.Worlds.{keeps_global}
use Rattle.world_laws.proofs.Values.{set_instance_variable_is, element_is, splat_is, make_symbol_is, with_pair_is}
use Rattle.world_laws.proofs.Constants.{get_constant_is, set_constant_is}
use Rattle.world_laws.proofs.Tables.{make_range_is}
use Rattle.world_laws.proofs.values_keep_the_world.Goals as goal

pub returns-clause-global : goal.returns-clause-global
returns-clause-global c = λ w name v fine. keeps_global anywhere w fine name v

pub returns-clause-variable : goal.returns-clause-variable
returns-clause-variable c = λ w recv name v fine. set_instance_variable_is anywhere w fine recv name v

pub returns-clause-constant : goal.returns-clause-constant
returns-clause-constant c = λ w classes name fine. get_constant_is anywhere w fine classes name

pub returns-clause-constant_set : goal.returns-clause-constant_set
returns-clause-constant_set c = λ w classes name v fine. set_constant_is anywhere w fine classes name v

pub returns-clause-element : goal.returns-clause-element
returns-clause-element c = λ w v place fine. element_is anywhere w fine v place

pub returns-clause-splat : goal.returns-clause-splat
returns-clause-splat c = λ w v fine. splat_is anywhere w fine v

pub returns-clause-symbol : goal.returns-clause-symbol
returns-clause-symbol c = λ w v fine. make_symbol_is anywhere w fine v

pub returns-clause-range : goal.returns-clause-range
returns-clause-range c = λ w a b exclusive fine. make_range_is anywhere w fine a b exclusive

pub returns-clause-pair : goal.returns-clause-pair
returns-clause-pair c = λ w hash shown v fine. with_pair_is anywhere w fine hash shown v
