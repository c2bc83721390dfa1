mod Lists
mod Placed
mod Rows
mod Results
