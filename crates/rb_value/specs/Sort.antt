-- What an object is, without what it holds.
use Rattle.std.specs.Prelude.{Bool, true, false}
use Rattle.rb_value.specs.declared.kind.ClassForm.{ClassForm}
use Rattle.rb_value.specs.declared.kind.ClassForm.TheVariants as form
use Rattle.rb_value.specs.declared.kind.Kind.{Kind}
use Rattle.rb_value.specs.declared.kind.Kind.TheVariants as kind
use Rattle.rb_value.specs.declared.kind.Sort.{Sort}
use Rattle.rb_value.specs.declared.kind.Sort.TheVariants as sort

abbrev pub sort_of_form : ClassForm → Sort
sort_of_form form.Class = sort.Class
sort_of_form form.Singleton = sort.Singleton
sort_of_form form.Module = sort.Module

abbrev pub sort_of : Kind → Sort
sort_of kind.Plain = sort.Plain
sort_of (kind.Class c) = sort_of_form c.form
sort_of (kind.String s) = sort.String
sort_of (kind.Array a) = sort.Array
sort_of (kind.Hash h) = sort.Hash
sort_of (kind.Range r) = sort.Range
sort_of (kind.Proc p) = sort.Proc
sort_of (kind.CoreProc r k) = sort.Proc
sort_of (kind.Fiber b e) = sort.Fiber
sort_of (kind.Exception m d) = sort.Exception
sort_of (kind.Enumerator e) = sort.Enumerator
sort_of (kind.Yielder b) = sort.Yielder

abbrev pub is_class : Sort → Bool
is_class sort.Plain = false
is_class sort.Class = true
is_class sort.Singleton = true
is_class sort.Module = true
is_class sort.String = false
is_class sort.Array = false
is_class sort.Hash = false
is_class sort.Range = false
is_class sort.Proc = false
is_class sort.Fiber = false
is_class sort.Exception = false
is_class sort.Enumerator = false
is_class sort.Yielder = false
