-- The rows of worked examples.
use Rattle.std.specs.Prelude.{true, false, pos}
use Rattle.mq_queue.specs.declared.figures.BoardRow.{BoardRow}
use Rattle.mq_queue.specs.declared.figures.Figures.{Figures}

-- two messages of 13 bytes in all
abbrev pub figures_of_two : Figures
figures_of_two = record {
  qnum = 2;
  cbytes = 13;
  qbytes = 4096;
  stime = 5;
  rtime = 0;
  ctime = 4;
  lspid = 1;
  lrpid = 0;
}

-- a slot's second queue, created with key 7
abbrev pub second_queue : BoardRow
second_queue = record { made = 2; live = true; key = pos 7; figures = figures_of_two }

-- the same, were it removed
abbrev pub removed_queue : BoardRow
removed_queue = record { made = 2; live = false; key = pos 7; figures = figures_of_two }
