use Rattle.world_laws.specs.Anywhere.{anywhere}
use Rattle.world_laws.proofs.Classes.{define_method_is, alias_method_is, undefine_method_is, open_class_is, open_class_gives, open_module_is, open_module_gives, singleton_class_is, singleton_class_gives, constant_told_is, method_told_is}
use Rattle.world_laws.proofs.definitions_keep_the_world.Goals as goal

pub returns-clause-method : goal.returns-clause-method
returns-clause-method c = λ w c name body classes fine. define_method_is anywhere w fine c name body classes

pub returns-clause-alias : goal.returns-clause-alias
returns-clause-alias c = λ w c new old fine. alias_method_is anywhere w fine c new old

pub returns-clause-undefined : goal.returns-clause-undefined
returns-clause-undefined c = λ w c name fine. undefine_method_is anywhere w fine c name

pub returns-clause-class : goal.returns-clause-class
returns-clause-class c = λ w scope name parent fine. open_class_is anywhere w fine scope name parent

pub returns-clause-class_given : goal.returns-clause-class_given
returns-clause-class_given c = λ w scope name parent fine. open_class_gives anywhere w fine scope name parent

pub returns-clause-module : goal.returns-clause-module
returns-clause-module c = λ w scope name fine. open_module_is anywhere w fine scope name

pub returns-clause-module_given : goal.returns-clause-module_given
returns-clause-module_given c = λ w scope name fine. open_module_gives anywhere w fine scope name

pub returns-clause-singleton : goal.returns-clause-singleton
returns-clause-singleton c = λ w v fine. singleton_class_is anywhere w fine v

pub returns-clause-singleton_given : goal.returns-clause-singleton_given
returns-clause-singleton_given c = λ w v fine. singleton_class_gives anywhere w fine v

pub returns-clause-constant_told : goal.returns-clause-constant_told
returns-clause-constant_told c = λ w classes name fine. constant_told_is anywhere w fine classes name

pub returns-clause-method_told : goal.returns-clause-method_told
returns-clause-method_told c = λ w caller recv name fine. method_told_is anywhere w fine caller recv name
