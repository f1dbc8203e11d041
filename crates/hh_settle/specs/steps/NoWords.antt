-- Why the words of the command line can't be used.
use Rattle.std.specs.declared.io.ErrorKind.{ErrorKind}
use Rattle.std.specs.declared.io.ErrorKind.TheVariants.{OutOfMemory}
use Rattle.hh_settle.specs.declared.no_words.NoWords.{NoWords}
use Rattle.hh_settle.specs.declared.no_words.NoWords.TheVariants.{Memory, NotText}

-- refused memory is told as such, and every other error means that words are not text
abbrev pub no_words : ErrorKind → NoWords
no_words OutOfMemory = Memory
no_words _ = NotText
