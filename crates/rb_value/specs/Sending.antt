-- What becomes of a block literal.
use Rattle.std.specs.Prelude.{ℕ, Option, Some, None}
use Rattle.rb_value.specs.declared.procs.Sending.{Sending}
use Rattle.rb_value.specs.declared.procs.Sending.TheVariants.{Unsent, Sent, SentTo}

-- as the block of a call that opened that activation, or none; only the first call counts
abbrev pub sent_to : Sending → Option ℕ → Sending
sent_to Unsent (Some a) = SentTo a
sent_to Unsent None = Sent
sent_to Sent a = Sent
sent_to (SentTo b) a = SentTo b

-- the activation that a `break` ends
abbrev pub break_target : Sending → Option ℕ
break_target Unsent = None
break_target Sent = None
break_target (SentTo a) = Some a
