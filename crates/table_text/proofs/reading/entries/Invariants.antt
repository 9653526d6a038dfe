use Rattle.std.proofs.Common.{◌≡◌, length}
use Rattle.channel_tables.specs.Tables.{IsBegun}
use Rattle.table_text.specs.TableText.{written, lines_then}
use Rattle.table_text.specs.Odometers.{ShowsNumber}
use Rattle.table_text.proofs.reading.entries.Given as goal

-- the odometer shows the window of the next line, and the lines before it are those of the table so far
abbrev pub invariant-lines : goal.invariant-lines
invariant-lines l = record {
  ids : l.maker.ids ≡ l.header.shape.ids;
  rounds : l.maker.rounds ≡ l.header.shape.rounds;
  channels : l.maker.channels ≡ l.header.channels;
  begun : IsBegun l.maker;
  count : length l.maker.entries ≡ l.number;
  shows : ShowsNumber l.header.shape.rounds l.header.shape.ids l.number l.odometer;
  read : l.text ≡ lines_then (written l.fn.version l.maker l.header.separation) l.rest;
}
