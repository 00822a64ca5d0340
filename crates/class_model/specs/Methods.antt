-- The method of an entry.
use Rattle.std.specs.Prelude.{Option, Some, None}
use Rattle.rb_value.specs.declared.method.Method.{Method}
use Rattle.rb_value.specs.declared.method.MethodEntry.{MethodEntry}

abbrev pub method_of : Option MethodEntry → Option Method
method_of None = None
method_of (Some e) = Some e.method
