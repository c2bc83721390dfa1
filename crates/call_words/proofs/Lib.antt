mod Filters
mod Lists
