-- The tables of the worked rows are those that their texts stand for.
use Rattle.std.proofs.Common.{◌≡◌, ℕ, List, ◌++◌, codes, Ok, refl}
use Rattle.std.specs.Fmt.{digits}
use Rattle.std.specs.Str.{is_utf8, chars}
use Rattle.toml.proofs.OnLiterals.{toml_on_literals}
use Rattle.method_steps.specs.Made.{table_of}
use Rattle.peer_output.proofs.Rows.Table.{row_table, opening_table, each_table}

abbrev row_text : List ℕ
row_text =
    codes "version = 1\n\n"
    ++ codes "[[method]]\nname = \"add\"\n[[method.step]]\nkind = \"add\"\nto = \"s\"\nleft = \"$params/0\"\nright = \"$params/1\"\n[[method.step]]\nkind = \"answer\"\nvalue = \"$s\"\n\n"
    ++ codes "[[method]]\nname = \"ask\"\n[[method.step]]\nkind = \"call\"\nto = \"r\"\nmethod = \"confirm\"\nparams = [\"$params/0\"]\n[[method.step]]\nkind = \"answer\"\nvalue = \"$r\"\n\n"
    ++ codes "[[method]]\nname = \"two\"\n[[method.step]]\nkind = \"calls\"\nto = \"r\"\nlist = [{ method = \"a\" }, { method = \"b\" }]\n[[method.step]]\nkind = \"answer\"\nvalue = \"$r\"\n\n"
    ++ codes "[[method]]\nname = \"gate\"\n[[method.step]]\nkind = \"call\"\nto = \"r\"\nmethod = \"confirm\"\n[[method.step]]\nkind = \"skip\"\nleft = \"$r\"\nright = true\ncount = 1\n[[method.step]]\nkind = \"fail\"\ncode = 7\nmessage = \"no\"\n[[method.step]]\nkind = \"answer\"\nvalue = \"yes\"\n\n"
    ++ codes "[[method]]\nname = \"keep\"\n[[method.step]]\nkind = \"call\"\nto = \"r\"\nmethod = \"confirm\"\non_error = \"keep\"\n[[method.step]]\nkind = \"answer\"\nvalue = \"$r\"\n\n"
    ++ codes "[[method]]\nname = \"note\"\n[[method.step]]\nkind = \"notify\"\nmethod = \"log\"\nparams = [\"$params/0\"]\n"

row_table_of_its_text : table_of row_text ≡ Ok row_table
unfolding is_utf8 chars digits toml_on_literals
row_table_of_its_text = refl

abbrev opening_text : List ℕ
opening_text =
    codes "version = 2\n[[opening]]\nkind = \"call\"\nto = \"r\"\nmethod = \"hello\"\n[[opening]]\nkind = \"notify\"\nmethod = \"ready\"\nparams = [\"$r\"]\n"

opening_table_of_its_text : table_of opening_text ≡ Ok opening_table
unfolding is_utf8 chars digits toml_on_literals
opening_table_of_its_text = refl

abbrev each_text : List ℕ
each_text =
    codes "version = 2\n"
    ++ codes "[[method]]\nname = \"all\"\n[[method.step]]\nkind = \"each\"\nto = \"r\"\nover = \"$params\"\nmethod = \"f\"\n[[method.step]]\nkind = \"answer\"\nvalue = \"$r\"\n"

each_table_of_its_text : table_of each_text ≡ Ok each_table
unfolding is_utf8 chars digits toml_on_literals
each_table_of_its_text = refl
