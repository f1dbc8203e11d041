-- The options for keys as the code has them.
use Rattle.hh_words.specs.KeyFiles.{KeyOption}
use Rattle.hh_words.specs.declared.key_files.KeyOption.{KeyOption as KeyTexts}

abbrev pub texts_of : KeyTexts → KeyOption
texts_of option = record { key = option.key.now; file = option.file.now; path = option.path.now }
