-- A Java file, and where the words of its class text come from, as data of a page.
use Rattle.std.specs.Prelude.{List, ◌++◌, codes}
use Rattle.std.specs.Fmt.{decimal}
use Rattle.ls_java_output.specs.declared.place.Place.{Place}
use Rattle.ls_report.specs.Events.{Text}
use Rattle.ls_page.specs.Lists.{listed}
use Rattle.ls_page.specs.Quoted.{quoted}

-- where a word begins and ends in the class text, and where the token of the file from which it comes does, in bytes
abbrev pub place_text : Place → Text
place_text p =
    codes "[" ++ (decimal p.start ++ (codes "," ++ (decimal p.end ++ (codes "," ++ (decimal p.at ++ (codes ","
    ++ (decimal p.until ++ codes "]")))))))

-- as `{"java":"class A..","places":[[0,5,0,5],[6,7,6,7]]}`
abbrev pub java_text : Text → List Place → Text
java_text file places =
    codes "{\"java\":" ++ (quoted file ++ (codes ",\"places\":" ++ (listed place_text places ++ codes "}\n")))
