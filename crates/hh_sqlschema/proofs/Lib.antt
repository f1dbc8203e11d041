mod NewLaws
