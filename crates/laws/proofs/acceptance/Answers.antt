use Rattle.laws.proofs.Accepting.{written_accepted, accepted_written, text_reads, read_writes, one_program}
use Rattle.laws.proofs.acceptance.Goals as goal

pub returns : goal.returns
returns c = record { written_accepted = written_accepted; accepted_written = accepted_written; text_reads = text_reads; read_writes = read_writes; one_program = one_program }
