-- What is unfolded where a program is run.
use Rattle.std.specs.Prelude.{ℕ}
use Rattle.std.specs.Fmt.{digits}
use Rattle.rb_value.specs.CoreClass.{core_classes}
use Rattle.def_core.specs.Bind.{bind}
use Rattle.def_core.specs.Changes.{fails, intern, make_all, missing, with_singleton, singleton, with_included, include, with_method, set_visibility, with_default, define_class, define_module}
use Rattle.def_core.specs.Classes.{chain_within, chain, lineage_within, lineage, ancestors, nearest_singleton, class_of}
use Rattle.def_core.specs.Find.{first_of, find, find_super, allowed}
use Rattle.def_core.specs.Texts.{class_name, text_of}
use Rattle.row_table.specs.Names.{integer_names, nil_names, truth_names, string_names, string_class_names, symbol_names, range_names, range_class_names}
use Rattle.row_table.specs.RowTable.{segment, line_at}
use Rattle.rb_store.specs.Opening.{object_constants, core_contents, core_object, nameless, with_names, bare as core_store, with_rows, with_segments, opening as table_store}
use Rattle.rb_integer.specs.Exact.{exact}
use Rattle.rb_integer.specs.Numeral.{letters}
use Rattle.rb_string.specs.Inspection.{shown as shown_byte, escaped}
use Rattle.rb_string.specs.Limit.{limited}
use Rattle.rb_string.specs.Numeral.{digits as digits_from, number, number_of}
use Rattle.rb_string.specs.Padding.{padding}
use Rattle.rb_string.specs.Parts.{ended as ended_parts, between}
use Rattle.rb_string.specs.Substitution.{reference, expanded, with_each}
use Rattle.rb_string.specs.Symbols.{operators}
use Rattle.def_rows.specs.Answers.{numbered, called}
use Rattle.def_rows.specs.Checking.{first_unfit}
use Rattle.def_rows.specs.Rows.{prim}
use Rattle.def_rows.specs.StringRows.{joined, gives as string_gives}
use Rattle.def_calls.specs.Calls.{enter_proc, enter_method, missing as enter_missing, send_by_core, call as enter_call, block_argument, settle, is_of, with_class_body, close, is_asked, unrescued, read}
use Rattle.def_calls.specs.Constants.{constant_path, find_constant, get_constant, constant_within, set_constant_in}
use Rattle.def_calls.specs.Definitions.{define_method, singleton_class, open_class, open_module, alias_method, undefine_method, has_method, instance_variable_told, global_told, constant_told, constant_in_told, method_told, yield_told, super_told}
use Rattle.def_calls.specs.Fibers.{resume, yield, finish as finish_fiber, with_ended}
use Rattle.def_calls.specs.Plain.{shown_object}
use Rattle.def_calls.specs.Plans.{flattened, kind_for, start, next, caught}
use Rattle.def_calls.specs.Rows.{segments, hidden, row_at, opening as opening_store}
use Rattle.def_calls.specs.Values.{wrong_value, instance_variable, set_instance_variable, element, elements_between, last_elements, splat, text_of_value, make_range, parts_of, key_of}
use Rattle.def_calls.specs.World.{fail, activation_at, classes_around}
use Rattle.rite_code.specs.Spelling.{encoding, wide_front, narrow_front, front, decode_at, decode_wide_at}
use Rattle.rite_code.specs.Table.{opcodes, opcode_of}
use Rattle.def_machine.specs.Entering.{enter, iterate}
use Rattle.def_machine.specs.State.{slot_at, put, start as start_state, shown}
use Rattle.def_machine.specs.Turn.{fetch, target, make_proc, machine}
use Rattle.def_machine.specs.Unwind.{receive, covering, unwind, throw}

unfoldable pub run : ℕ
unfolding digits core_classes bind fails intern make_all missing with_singleton singleton with_included include
    with_method set_visibility with_default define_class define_module chain_within chain lineage_within lineage
    ancestors nearest_singleton class_of first_of find find_super allowed class_name text_of integer_names nil_names
    truth_names string_names string_class_names symbol_names range_names range_class_names segment line_at
    object_constants core_contents core_object nameless with_names core_store with_rows with_segments table_store
    exact letters shown_byte escaped limited digits_from number number_of padding ended_parts between reference
    expanded with_each operators joined string_gives numbered called first_unfit prim enter_proc enter_method
    enter_missing send_by_core enter_call block_argument settle is_of with_class_body close is_asked unrescued read
    constant_path find_constant get_constant constant_within set_constant_in define_method singleton_class open_class
    open_module alias_method undefine_method has_method instance_variable_told global_told constant_told
    constant_in_told method_told yield_told super_told resume yield finish_fiber with_ended shown_object flattened
    kind_for start next caught segments hidden row_at opening_store wrong_value instance_variable
    set_instance_variable element elements_between last_elements splat text_of_value make_range parts_of key_of fail
    activation_at classes_around encoding wide_front narrow_front front decode_at decode_wide_at opcodes opcode_of
    enter iterate slot_at put start_state shown fetch target make_proc machine receive covering unwind throw
run = 0
