-- What an object holds, where it is read.
use Rattle.rb_value.specs.declared.kind.Kind.{Kind}
use Rattle.rb_value.specs.declared.kind.Kind.TheVariants as kind
use Rattle.rb_value.specs.declared.kind.KindRef.{KindRef}
use Rattle.rb_value.specs.declared.kind.KindRef.TheVariants as read

abbrev pub seen : KindRef → Kind
seen read.Plain = kind.Plain
seen (read.Class c) = kind.Class c.now
seen (read.String s) = kind.String s.now
seen (read.Array a) = kind.Array a.now
seen (read.Hash h) = kind.Hash h.now
seen (read.Range r) = kind.Range r
seen (read.Proc p) = kind.Proc p.now
seen (read.CoreProc r k) = kind.CoreProc r k
seen (read.Fiber b e) = kind.Fiber b e
seen (read.Exception m d) = kind.Exception m d
seen (read.Enumerator e) = kind.Enumerator e.now
seen (read.Yielder b) = kind.Yielder b
