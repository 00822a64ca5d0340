-- A store with the count of the changes of its classes and modules.
use Rattle.std.specs.Prelude.{ℕ, ◌+◌, ◌-◌, ◌^◌, min}
use Rattle.rb_value.specs.declared.kind.Sort.{Sort}
use Rattle.rb_value.specs.declared.kind.Sort.TheVariants as sort
use Rattle.def_core.specs.Store.{Store}

pub record Held : Type 0 where
  pub store : Store
  pub changes : ℕ

-- one more, but for a number at its limit
abbrev pub one_more : ℕ → ℕ
one_more n = min (n + 1) (2 ^ 64 - 1)

-- the count after a change of an object of the sort
abbrev pub changes_after : ℕ → Sort → ℕ
changes_after n sort.Class = one_more n
changes_after n sort.Singleton = one_more n
changes_after n sort.Module = one_more n
changes_after n sort.Plain = n
changes_after n sort.String = n
changes_after n sort.Array = n
changes_after n sort.Hash = n
changes_after n sort.Range = n
changes_after n sort.Proc = n
changes_after n sort.Fiber = n
changes_after n sort.Exception = n
changes_after n sort.Enumerator = n
changes_after n sort.Yielder = n
