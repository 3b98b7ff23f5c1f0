-- What a string of a template stands for, read or not.
use Rattle.serde_json.specs.Data.{string, null}
use Rattle.table_reading.specs.declared.word.Word.{Word}
use Rattle.table_reading.specs.declared.word.Word.TheVariants as word
use Rattle.method_templates.specs.Shape.{Shape, plain, place}

abbrev pub word_shape : Word → Shape
word_shape (word.Literal s) = plain (string s.now)
word_shape word.Null = plain null
word_shape (word.Place name pointer) = place name.now pointer.now
