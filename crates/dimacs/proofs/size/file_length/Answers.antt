-- `size::file_length` meets its contract: the head's length and the lines'. Assumes nothing.
use Rattle.dimacs.proofs.FileLaws.{file_length, body_length}
use Rattle.dimacs.proofs.size.file_length.Goals as goal

pub returns : goal.returns
returns c =
    file_length c.args.q c.requires c.head_length.ensures.0 (body_length c.args.q c.requires.good c.lines_length.ensures)
