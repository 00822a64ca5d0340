use Rattle.rb_base.proofs.Entries.{nowhere, place_at, puts_at}
use Rattle.rb_base.proofs.memory_files.put_entry.Goals as goal

pub returns-in-Some-clause-put : goal.returns-in-Some-clause-put
returns-in-Some-clause-put c =
    let place = place_at _ _ _ c.args.name.now c.deref.ensures.value c.in-Some.ensures in
    puts_at _ _ _ _ _ c.in_ok-entry.ensures place

pub returns-in_ok-push-in-None-clause-put : goal.returns-in_ok-push-in-None-clause-put
returns-in_ok-push-in-None-clause-put c =
    let none = nowhere _ _ c.args.name.now c.deref.ensures.value c.in-None.ensures in
    rw (c.in_ok-push-in-None.ensures.items, c.in_ok-entry.ensures) (none.puts c.args.bytes.now)
