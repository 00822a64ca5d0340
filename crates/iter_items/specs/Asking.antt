-- What a method over items wants for the next item.
use Rattle.std.specs.Prelude.{◌≡◌, ℕ, pos, ◌-◌, ◌^◌, min, zero, suc, List, [], ◌∷◌, ◌++◌, length, drop, nat_eq, not, Bool, true, false, ◌&&◌, if◌then◌else◌, Option, Some, None, is_some, is_none, unwrap_or, Result, Ok, Err}
use Rattle.std.specs.declared.alloc.AllocError.{AllocError}
use Rattle.rb_value.specs.declared.value.Value.{Value}
use Rattle.rb_value.specs.declared.value.Value.TheVariants.{Nil, Int}
use Rattle.rb_value.specs.declared.value.ObjId.{ObjId}
use Rattle.rb_value.specs.Value.{truth, is_true}
use Rattle.rb_store.specs.Held.{Held}
use Rattle.heap.specs.Made.{array_given, with_array}
use Rattle.core_calls.specs.declared.beat.Passed.{Passed}
use Rattle.core_calls.specs.declared.beat.Passed.TheVariants.{One, Two}
use Rattle.iter_items.specs.declared.row.Task.{Task}
use Rattle.iter_items.specs.declared.row.Task.TheVariants as task
use Rattle.iter_items.specs.declared.source.Source.{Source}
use Rattle.iter_items.specs.declared.visit.Visit.{Visit}
use Rattle.iter_items.specs.declared.wish.Wish.{Wish}
use Rattle.iter_items.specs.declared.wish.Wish.TheVariants.{Ends, Calls, Asks}
use Rattle.iter_items.specs.Sources as sources

-- a visit at its beginning
abbrev pub begun : Task → Value → Source → Option ObjId → Visit
begun t recv s block = record {
  task = t;
  receiver = recv;
  source = s;
  block = block;
  item = Nil;
  kept = [];
  others = [];
  made = None;
  value = None;
  name = None;
  site = record { place = 0 };
  size = 0;
  tally = 0;
  called = false;
  wish = None;
}

-- a wish, where there is one, with the visit and the heap that are left
pub record Wished : Type 0 where
  pub wish : Option Wish
  pub visit : Visit
  pub held : Held

-- the wish is that, and so is what is left; memory may run out
abbrev pub IsWished : Wished → Result (Option Wish) AllocError → Visit → Held → Type 0
IsWished w (Ok wish) visit held = w ≡ record { wish = wish; visit = visit; held = held }
IsWished w (Err e) visit held = Unit {0}

abbrev pub wishes : Held → Visit → Wish → Wished
wishes held v w = record { wish = Some w; visit = v; held = held }

abbrev pub nothing : Held → Visit → Wished
nothing held v = record { wish = None; visit = v; held = held }

abbrev pub value_or_nil : Visit → Value
value_or_nil v = unwrap_or v.value Nil

-- a number as an Integer, of which none is greater than the greatest
abbrev pub tally_value : Visit → Value
tally_value v = Int (pos (min v.tally (2 ^ 63 - 1)))

-- the block is called with values; without one the visit ends
abbrev pub call_by : Option ObjId → Passed → Wish
call_by (Some p) passed = Calls (record { callee = p; passed = passed })
call_by None passed = Ends Nil

abbrev pub call_block : Visit → Passed → Wish
call_block v passed = call_by v.block passed

-- What is done with an item.

abbrev pub asks : Value → Value → Wish
asks recv argument = Asks recv argument

-- whether the item is the value that is counted, where there is one
abbrev pub count_item : Visit → Value → Option Value → Wish
count_item v item (Some wanted) = asks item wanted
count_item v item None = call_block v (One item)

-- the value so far and the item are put together by the method, or by the block
abbrev pub combine : Visit → Value → Wish
combine v item = if is_some v.name then asks (value_or_nil v) item else call_block v (Two (value_or_nil v) item)

-- the item is added, or what the block makes of it
abbrev pub add : Held → Visit → Value → Wished
add held v item = if is_some v.block then wishes held (record v { called = true }) (call_block v (One item))
    else wishes held v (combine v item)

abbrev pub ask_of : Task → Held → Visit → Value → Wished
ask_of task.EachWithIndex held v item = wishes held v (call_block v (Two item (tally_value v)))
ask_of task.EachWithObject held v item = wishes held v (call_block v (Two item (value_or_nil v)))
ask_of task.Count held v item = wishes held v (count_item v item v.value)
ask_of task.Inject held v item = wishes held v (combine v item)
ask_of task.Sum held v item = add held v item
ask_of _ held v item = wishes held v (call_block v (One item))

-- the next item, from the first on or from the last one back

abbrev pub is_backwards : Task → Bool
is_backwards task.ReverseEach = true
is_backwards _ = false

abbrev pub passed : Held → Visit → sources.Passed Source
passed held v = if is_backwards v.task then sources.previous held v.source else sources.next held v.source

abbrev pub with_item : Held → Visit → Option Value → Wished
with_item held v None = nothing held v
with_item held v (Some item) = ask_of v.task held (record v { item = item }) item

abbrev pub with_source : Visit → sources.Passed Source → Visit
with_source v p = record v { source = p.source }

abbrev pub visited_by : Visit → sources.Passed Source → Wished
visited_by v p = with_item p.held (with_source v p) p.item

abbrev pub visited : Held → Visit → Wished
visited held v = visited_by v (passed held v)

-- `inject` begins with the first item, where no value was given
abbrev pub begun_by : Visit → sources.Passed Source → Wished
begun_by v p = visited p.held (record v { value = p.item; source = p.source })

abbrev pub injected : Held → Visit → Option Value → Wished
injected held v (Some value) = visited held v
injected held v None = begun_by v (sources.next held v.source)

-- Items that are taken at once.

-- at most so many of the next items
pub record Taken : Type 0 where
  pub items : List Value
  pub source : Source
  pub held : Held

abbrev pub put_first : Value → Taken → Taken
put_first v t = record t { items = v ∷ t.items }

abbrev pub put_before : List Value → Taken → Taken
put_before vs t = record t { items = vs ++ t.items }

abbrev pub after : Option Value → sources.Passed Source → Taken → Taken
after None p rest = record { items = []; source = p.source; held = p.held }
after (Some v) p rest = put_first v rest

abbrev pub taken : ℕ → Held → Source → Taken
taken zero held s = record { items = []; source = s; held = held }
taken (suc n) held s = after (sources.next held s).item (sources.next held s)
    (taken n (sources.next held s).held (sources.next held s).source)

-- Groups: a new Array of the next items, or of those that stand one after another.

abbrev pub group_called : Held → Visit → List Value → Wished
group_called held v vs = wishes (with_array held vs) v (call_block v (One (array_given held.store vs)))

abbrev pub slice_by : Visit → Held → List Value → Wished
slice_by v held [] = nothing held v
slice_by v held (item ∷ items) = group_called held v (item ∷ items)

abbrev pub slice_of : Visit → Taken → Wished
slice_of v t = slice_by (record v { source = t.source }) t.held t.items

abbrev pub next_slice : Held → Visit → Wished
next_slice held v = slice_of v (taken v.size held v.source)

-- those that stand one after another: the items of the last group without the first, and the next one

pub record Window : Type 0 where
  pub whole : Bool
  pub visit : Visit
  pub held : Held

abbrev pub window_of : Visit → Taken → Window
window_of v t = record {
  whole = nat_eq (length t.items) v.size;
  visit = record v { kept = t.items; source = t.source };
  held = t.held;
}

abbrev pub first_window : Held → Visit → Window
first_window held v = window_of v (taken v.size held v.source)

abbrev pub slid : List Value → Value → List Value
slid vs item = drop 1 vs ++ item ∷ []

abbrev pub slid_by : Visit → sources.Passed Source → Option Value → Window
slid_by v p (Some item) =
    record { whole = true; visit = record v { kept = slid v.kept item; source = p.source }; held = p.held }
slid_by v p None = record { whole = false; visit = with_source v p; held = p.held }

abbrev pub slide : Held → Visit → Window
slide held v = if nat_eq (length v.kept) 0 then first_window held v
    else slid_by v (sources.next held v.source) (sources.next held v.source).item

abbrev pub window_called : Window → Wished
window_called w = if w.whole then group_called w.held w.visit w.visit.kept else nothing w.held w.visit

abbrev pub next_window : Held → Visit → Wished
next_window held v = window_called (slide held v)

-- whether all, any or none of the items are true, where no block is asked

abbrev pub decides : Task → Value → Bool
decides task.All v = not (is_true v)
decides _ v = is_true v

abbrev pub is_any : Task → Bool
is_any task.Any = true
is_any _ = false

abbrev pub undecided : Visit → Wish
undecided v = Ends (truth (not (is_any v.task)))

abbrev pub tested_on : Visit → Option Value → sources.Passed Source → Wished → Wished
tested_on v None p rest = wishes p.held (with_source v p) (undecided v)
tested_on v (Some item) p rest =
    if decides v.task item then wishes p.held (with_source v p) (Ends (truth (is_any v.task))) else rest

abbrev pub tested_from : ℕ → Held → Visit → Wished
tested_from zero held v = wishes held v (undecided v)
tested_from (suc n) held v = tested_on v (sources.next held v.source).item (sources.next held v.source)
    (tested_from n (sources.next held v.source).held (with_source v (sources.next held v.source)))

abbrev pub tested : Held → Visit → Wished
tested held v = tested_from (sources.left held.store v.source) held v

abbrev pub all_asked : Held → Visit → Wished
all_asked held v = if is_none v.block then tested held v else visited held v

-- all that are left are counted, where neither a block nor a value tells which
abbrev pub counted : Held → Visit → Wished
counted held v = if is_none v.block && is_none v.value
    then nothing held (record v { tally = sources.left held.store v.source }) else visited held v

-- what a visit wants for its next item; nothing where there is none
abbrev pub asked_by : Task → Held → Visit → Wished
asked_by task.EachSlice held v = next_slice held v
asked_by task.EachCons held v = next_window held v
asked_by task.All held v = all_asked held v
asked_by task.Any held v = all_asked held v
asked_by task.Never held v = all_asked held v
asked_by task.Count held v = counted held v
asked_by task.Inject held v = injected held v v.value
asked_by _ held v = visited held v

abbrev pub asked : Held → Visit → Wished
asked held v = asked_by v.task held v
