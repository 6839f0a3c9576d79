use Rattle.std.specs.Prelude.{ℕ}
use Rattle.ras_outside.specs.declared.sink.SinkFault.{SinkFault}
use Rattle.ras_outside.specs.declared.sink.SinkFault.TheVariants.{Failed}

-- how many bytes of its piece a put took before it failed
abbrev pub taken_of : SinkFault → ℕ
taken_of (Failed taken) = taken
