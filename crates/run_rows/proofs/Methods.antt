-- The methods of the store at the start.
use Rattle.std.proofs.Common.{◌≡◌, true, refl}
use Rattle.std.specs.Prelude.{map}
use Rattle.rb_value.specs.CoreClass.{core_classes}
use Rattle.def_core.specs.Classes.{chain, chain_within, lineage, lineage_within, ancestors, nearest_singleton, class_of}
use Rattle.def_core.specs.Find.{find, first_of}
use Rattle.def_core.specs.Changes.{fails, intern, with_method, singleton, with_singleton, make_all, missing}
use Rattle.def_calls.specs.Definitions.{singleton_class, undefine_method}
use Rattle.def_calls.specs.World.{fail}
use Rattle.row_table.specs.Names.{integer_names, nil_names, truth_names, string_names, string_class_names, symbol_names, range_names, range_class_names}
use Rattle.row_table.specs.RowTable.{segment}
use Rattle.rb_store.specs.Opening as store
use Rattle.rb_store.specs.Opening.{bare, nameless, core_object, core_contents, with_rows}
use Rattle.rows_object.specs.Named as of_objects
use Rattle.rows_class.specs.Named as of_classes
use Rattle.rows_items.specs.Named as of_items
use Rattle.rows_array.specs.Named as of_arrays
use Rattle.rows_hash.specs.Named as of_hashes
use Rattle.iter_items.specs.Named as over_items
use Rattle.run_rows.specs.Named as named
use Rattle.run_rows.specs.Opening.{opening, with_names, with_segments, undefined_by, have_no_new, have_no_allocate}
use Rattle.run_rows.specs.Methods.{had, told, segments, numbers_from, without_both, others_have_none}

pub methods_are_told : had opening segments ≡ map told segments
unfolding opening with_names with_segments undefined_by have_no_new have_no_allocate had numbers_from without_both
    named.kernel_rows named.class_rows named.proc_rows named.fiber_rows named.fiber_class_rows named.exception_rows
    named.integer_rows named.string_rows named.array_rows named.hash_rows named.range_rows named.under
    named.hidden_rows of_objects.object_rows of_objects.kernel_rows of_objects.string_rows of_objects.symbol_rows
    of_objects.proc_rows of_objects.proc_class_rows of_objects.fiber_rows of_objects.fiber_class_rows
    of_objects.enumerator_class_rows of_objects.exception_rows of_objects.system_exit_rows
    of_objects.stop_iteration_rows of_objects.name_error_rows of_classes.module_rows of_classes.module_class_rows
    of_classes.class_rows of_classes.class_class_rows of_classes.main_rows of_items.list_rows of_items.range_rows
    of_arrays.array_rows of_hashes.hash_rows over_items.visits over_items.object_rows over_items.comparable_rows
    over_items.array_rows over_items.hash_rows over_items.enumerator_rows over_items.yielder_rows
    over_items.gathered_rows store.opening store.with_segments store.with_names with_rows bare nameless core_classes
    core_object core_contents intern with_method find first_of chain chain_within lineage lineage_within ancestors
    nearest_singleton class_of fails fail singleton with_singleton make_all missing singleton_class undefine_method
    integer_names nil_names truth_names string_names string_class_names symbol_names range_names range_class_names
    segment
methods_are_told = refl

pub no_others : others_have_none opening segments 0 opening.objects ≡ true
unfolding opening with_names with_segments undefined_by have_no_new have_no_allocate numbers_from others_have_none
    without_both named.kernel_rows named.class_rows named.proc_rows named.fiber_rows named.fiber_class_rows
    named.exception_rows named.integer_rows named.string_rows named.array_rows named.hash_rows named.range_rows
    named.under named.hidden_rows of_objects.object_rows of_objects.kernel_rows of_objects.string_rows
    of_objects.symbol_rows of_objects.proc_rows of_objects.proc_class_rows of_objects.fiber_rows
    of_objects.fiber_class_rows of_objects.enumerator_class_rows of_objects.exception_rows of_objects.system_exit_rows
    of_objects.stop_iteration_rows of_objects.name_error_rows of_classes.module_rows of_classes.module_class_rows
    of_classes.class_rows of_classes.class_class_rows of_classes.main_rows of_items.list_rows of_items.range_rows
    of_arrays.array_rows of_hashes.hash_rows over_items.visits over_items.object_rows over_items.comparable_rows
    over_items.array_rows over_items.hash_rows over_items.enumerator_rows over_items.yielder_rows
    over_items.gathered_rows store.opening store.with_segments store.with_names with_rows bare nameless core_classes
    core_object core_contents intern with_method find first_of chain chain_within lineage lineage_within ancestors
    nearest_singleton class_of fails fail singleton with_singleton make_all missing singleton_class undefine_method
    integer_names nil_names truth_names string_names string_class_names symbol_names range_names range_class_names
    segment
no_others = refl
