use Rattle.read_back.proofs.Joining.{books_read_back}
use Rattle.read_back.proofs.books_read_back.Goals as goal

pub returns : goal.returns
returns c = books_read_back
