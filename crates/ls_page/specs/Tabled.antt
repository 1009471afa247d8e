-- What the code keeps of texts and their numbers, in the definitions' words.
use Rattle.ls_page.specs.ChoicesData.{Tables}
use Rattle.ls_page.specs.Numbers.{numbers_in, texts_in}
use Rattle.ls_page.specs.declared.tables.Tables.{Tables as KeptTables}

abbrev pub tables_of : KeptTables → Tables
tables_of t = record {
  texts = texts_in t.table;
  lines = numbers_in t.lines.items;
  ends = numbers_in t.ends.items;
  next = numbers_in t.next.items;
  serial = t.serial;
}
