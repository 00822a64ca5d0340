-- What a work wants next, and what an answer comes to.
use Rattle.std.specs.Prelude.{Option, Some, None}
use Rattle.rb_value.specs.declared.value.Value.{Value}
use Rattle.rb_store.specs.Held.{Held}
use Rattle.iter_comparing.specs.declared.questions.Question.{Question}
use Rattle.iter_comparing.specs.declared.questions.Question.TheVariants.{Asks}

-- a question, with the work and the heap that are left
pub record Asked (W : Type 0) : Type 0 where
  pub question : Question
  pub work : W
  pub held : Held

-- the value with which an answer ends the work, and the work that is left
pub record Heard (W : Type 0) : Type 0 where
  pub ends : Option Value
  pub work : W

-- the work and the heap stay
abbrev pub asked : {W : Type 0} → Held → W → Question → Asked W
asked held w q = record { question = q; work = w; held = held }

abbrev pub goes_on : {W : Type 0} → W → Heard W
goes_on w = record { ends = None; work = w }

abbrev pub ends_with : {W : Type 0} → W → Value → Heard W
ends_with w v = record { ends = Some v; work = w }

-- a value is asked whether it is another, or how it stands to it
abbrev pub compare : Value → Value → Question
compare v u = Asks v (Some u)

-- or what stands for it in a text
abbrev pub show : Value → Question
show v = Asks v None
