-- What is known of a sink over a standard stream.
use Rattle.std.specs.Prelude.{ℕ, Bool, true, false}
use Rattle.sg_io.specs.declared.std_sink.StdSink.{StdSink}
use Rattle.sg_io.specs.declared.std_sink.Stream.{Stream}
use Rattle.sg_io.specs.declared.std_sink.Stream.TheVariants.{Output, Error}

abbrev is_error_stream : Stream → Bool
is_error_stream Output = false
is_error_stream Error = true

-- whether it writes standard error, and not standard output
abbrev pub writes_errors : StdSink → Bool
writes_errors s = is_error_stream s.stream

-- how often it failed
abbrev pub fault_count : StdSink → ℕ
fault_count s = s.faults
