use Rattle.laws.proofs.Back.{reads_written, writes_read}
use Rattle.laws.proofs.Lines.{lines_read, lines_written}
use Rattle.laws.proofs.reading_undoes_writing.Goals as goal

pub returns : goal.returns
returns c = record { operands = reads_written; operands_back = writes_read; lines = lines_read; lines_back = lines_written }
