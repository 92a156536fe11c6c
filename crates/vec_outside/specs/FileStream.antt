-- What is seen of standard input and standard output: their counts of faults.
use Rattle.std.specs.Prelude.{ℕ}
use Rattle.vec_outside.specs.declared.file_streams.FileSource.{FileSource}
use Rattle.vec_outside.specs.declared.file_streams.FileSink.{FileSink}

-- how many reads have failed
abbrev pub source_faults : FileSource → ℕ
source_faults source = source.faults

-- how many writes have failed
abbrev pub sink_faults : FileSink → ℕ
sink_faults sink = sink.faults
