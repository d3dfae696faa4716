mod FitTerms
mod OrderedTerms
mod CoreOfSource
