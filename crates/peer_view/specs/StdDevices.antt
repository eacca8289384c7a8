-- The values that readers and writers of std wrap.
use Rattle.peer_view.specs.declared.std_reader.StdReader.{StdReader}
use Rattle.peer_view.specs.declared.std_writer.StdWriter.{StdWriter}

abbrev pub reader_inner : {R : Type 0} → StdReader R → R
reader_inner r = r.inner

abbrev pub writer_inner : {W : Type 0} → StdWriter W → W
writer_inner w = w.inner
